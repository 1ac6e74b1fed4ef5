-- `join_corners` joins the corners down the chain.
use native.Mathlib.Omega.{arith}
use Rattle.alike.proofs.Chains.{at_head, at_next, next_less}
use Rattle.triangles.proofs.Joins.{joined-start, joined_on}
use Rattle.triangles.proofs.twins.join_corners.Goals as goal
use Rattle.triangles.proofs.twins.join_corners.Goals.{In-loop-end, Start}

pub loop-end-init : goal.loop-end-init
loop-end-init c = (at_head c.requires.ended.1, joined-start c.requires.ended.0 c.requires.ended.1 _ _)

pub loop-end-smaller : goal.loop-end-smaller
loop-end-smaller c = next_less c.requires.ended.1 c.loop-end.invariant.0 c.loop-end-test.true

pub loop-end-preserved : goal.loop-end-preserved
loop-end-preserved c =
    let v = c.loop-end.invariant in
    let n = c.loop-end-test.true in (
      at_next c.requires.ended.1 v.0 n,
      rw c.join_corner-lowest.ensures.twin_after (joined_on c.requires.ended.0 c.requires.ended.1 c.requires.ended.2 v.0 n (omega (arith, c.requires.bound_in_bounds.1, c.loop-end.auto.twin)) c.join_corner-lowest.ensures.lower v.1),
    )
