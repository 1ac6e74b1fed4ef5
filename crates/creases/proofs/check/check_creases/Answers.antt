-- `check_creases` marks the border edges, of which there is a mark for each, and looks for an edge whose number is bad.
use Prim.Native.Nat.{◌≤◌}
use mathlib.Core.Path.{ap, ◌∙◌}
use native.Mathlib.Omega.{arith}
use lib.ListN.{length}
use Rattle.laws.proofs.Counts.{count_at_most}
use Rattle.halfedges.specs.Cage.{most_halfedges, above, E}
use Rattle.halfedges.specs.Refusals.{CREASE, given_at}
use Rattle.creases.specs.Creases.{bad_crease}
use Rattle.creases.proofs.Borders.{marked_none}
use Rattle.creases.proofs.check.check_creases.Goals as goal
use Rattle.creases.proofs.check.check_creases.Goals.{Start}

-- each edge has a mark
enough : (s : Start) → E s.args.twin.now ≤ most_halfedges
unfolding E
enough s = omega (arith, s.requires.few, count_at_most (length s.args.twin.now) (above s.args.twin.now))

pub mark_borders-requires : goal.mark_borders-requires
mark_borders-requires c =
    (record { same = c.requires.same; below = λ h l. omega (arith, c.requires.below h l, enough (goal.at.mark_borders-requires c).Start) }, marked_none _ _ most_halfedges)

pub first_bad_crease-requires : goal.first_bad_crease-requires
first_bad_crease-requires c =
    (c.mark_borders.ensures, omega (arith, c.requires.long, enough (goal.at.first_bad_crease-requires c).Start, c.mark_borders.auto.borders))

pub returns : goal.returns
returns c =
    c.first_bad_crease.ensures
    ∙ ap (λ n. given_at n (bad_crease c.args.twin.now c.args.edge.now c.args.creases.now) CREASE) c.requires.long
