-- `list_ends` lists the end of one halfedge after the other.
use Prim.Native.Nat.{◌<◌}
use mathlib.Core.Path.{refl}
use native.Mathlib.Omega.{arith}
use lib.ListN.{length}
use Rattle.laws.proofs.Filling.{over_next}
use Rattle.halfedges.specs.Cage.{NEXT, cell}
use Rattle.halfedges.proofs.Triangle.{next_below}
use Rattle.triangles.proofs.twins.list_ends.Goals as goal
use Rattle.triangles.proofs.twins.list_ends.Goals.{After-next-next, Start}

-- a turn, once the next halfedge is known
next_inside : (n : After-next-next) → n.next-next.result < length n.args.vert.now
next_inside n =
    let l : n.loop-halfedge.halfedge < length n.args.vert.now = omega arith in
    omega (arith, n.next-next.ensures, next_below n.requires.0.whole l)

pub offset_bounds-vert-next : goal.offset_bounds-vert-next
offset_bounds-vert-next c = omega (arith, next_inside c, c.requires.0.few)

pub bounds-vert-next : goal.bounds-vert-next
bounds-vert-next c = next_inside (goal.at.bounds-vert-next c).After-next-next

pub loop-halfedge-preserved : goal.loop-halfedge-preserved
loop-halfedge-preserved c =
    let i = c.loop-halfedge in
    rw c.next-next.ensures (over_next _ _ (λ h. cell c.args.vert.now (NEXT h)) i.halfedge _ (omega (arith, c.requires.1)) i.invariant refl)
