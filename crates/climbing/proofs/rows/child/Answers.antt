-- `child` by the row that the new halfedge stands in.
use borrow.Author.Rules.{rules}
use Rattle.climbing.proofs.Made.{made_middle, made_outer, made_across, made_inner}
use Rattle.climbing.proofs.rows.child.Goals as goal

pub returns-then-corners-halfedge : goal.returns-then-corners-halfedge
returns-then-corners-halfedge c = made_middle _ _ _ _ c.if-corners-halfedge.true c.inside.ensures

pub returns-in-0 : goal.returns-in-0
returns-in-0 c =
    made_outer _ _ _ _ c.if-corners-halfedge.false c.is_above-above.ensures c.in-0.is c.outer_half.ensures

pub returns-in-1 : goal.returns-in-1
returns-in-1 c =
    made_across _ _ _ _ c.if-corners-halfedge.false c.in-1.is c.inside-in-1.ensures

pub returns-in_default : goal.returns-in_default
returns-in_default c =
    made_inner _ _ _ _ c.if-corners-halfedge.false c.is_above-above.ensures (search rules) (search rules) c.inner_half.ensures
