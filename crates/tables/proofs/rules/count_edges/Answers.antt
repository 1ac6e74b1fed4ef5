-- `count_edges` counts the halfedges that are above their twins.
use mathlib.Core.Path.{◌≡◌, sym, ◌∙◌}
use native.Mathlib.Numerals.{add-one}
use native.Mathlib.Omega.{arith}
use lib.ListN.{length}
use Rattle.laws.proofs.Counts.{count_at_most}
use Rattle.halfedges.specs.Cage.{above, E}
use Rattle.tables.proofs.rules.count_edges.Goals as goal
use Rattle.tables.proofs.rules.count_edges.Goals.{then-is_above, else-is_above}

pub overflow_add-edges : goal.overflow_add-edges
overflow_add-edges c = let i = c.loop-halfedge in omega (arith, i.invariant, count_at_most i.halfedge (above c.args.twin.now))

pub loop-halfedge-preserved : goal.loop-halfedge-preserved
unfolding above
loop-halfedge-preserved c =
    let i = c.loop-halfedge in
    let e = c.is_above.ensures in
    elim c.if-is_above.branch [
      | then-is_above w ↦ let t = sym e ∙ w.if-is_above.true in rw (add-one, t) (omega (arith, w.edges-is, i.invariant))
      | else-is_above w ↦ let t = sym e ∙ w.if-is_above.false in rw (add-one, t) (omega (arith, w.edges-is, i.invariant))
    ]

pub returns : goal.returns
unfolding E
returns c = let e : c.loop-halfedge.halfedge ≡ length c.args.twin.now = omega arith in rw (← e) c.loop-halfedge.invariant
