-- `check_edges` counts each edge's carriers from zeros; E is at most H, so every edge that is in range has a cell.
use mathlib.Core.Path.{ap, ◌∙◌}
use native.Mathlib.Omega.{arith}
use lib.ListN.{length, get_or-replicate}
use Rattle.laws.proofs.Counts.{count_at_most}
use Rattle.halfedges.specs.Cage.{above, E}
use Rattle.halfedges.specs.Refusals.{EDGE, given_at}
use Rattle.tables.specs.Rules.{bad_edge}
use Rattle.tables.proofs.rules.check_edges.Goals as goal

pub count_numbers-requires : goal.count_numbers-requires
count_numbers-requires c = (omega arith, record { each = λ x l. get_or-replicate 3072 x 0 0 l })

pub first_bad_edge-requires : goal.first_bad_edge-requires
unfolding E
first_bad_edge-requires c =
    let n = count_at_most (length c.args.twin.now) (above c.args.twin.now) in
    (c.requires, record { counted = c.count_numbers.ensures; room = omega (arith, c.requires.few, c.count_edges-edges.ensures, c.count_numbers.auto.tally) })

pub returns : goal.returns
returns c = c.first_bad_edge.ensures ∙ ap (λ e. given_at (length c.args.twin.now) (bad_edge c.args.twin.now c.args.edge.now e) EDGE) c.count_edges-edges.ensures
