-- `keep_corners` keeps a corner of each vertex that a halfedge passed leaves.
use Prim.Native.Nat.{◌<◌}
use mathlib.Core.Path.{◌≡◌}
use native.Mathlib.Omega.{arith}
use lib.ListN.{length}
use Rattle.halfedges.specs.Cage.{cell}
use Rattle.tables.proofs.Corners.{kept_more}
use Rattle.tables.proofs.fans.keep_corners.Goals as goal
use Rattle.tables.proofs.fans.keep_corners.Goals.{In-loop-halfedge}

inside : (c : In-loop-halfedge) → cell c.args.vert.now c.loop-halfedge.halfedge < length c.loop-halfedge.kept
inside c =
    let i = c.loop-halfedge in
    omega (arith, i.auto.kept, c.requires.1 i.halfedge (omega arith))

pub offset_bounds-kept-vertex : goal.offset_bounds-kept-vertex
offset_bounds-kept-vertex c = omega (arith, inside (goal.at.offset_bounds-kept-vertex c).In-loop-halfedge)

pub bounds-kept-vertex : goal.bounds-kept-vertex
bounds-kept-vertex c = inside (goal.at.bounds-kept-vertex c).In-loop-halfedge

pub loop-halfedge-preserved : goal.loop-halfedge-preserved
loop-halfedge-preserved c =
    let i = c.loop-halfedge in
    kept_more _ _ i.halfedge (omega arith) (inside (goal.at.loop-halfedge-preserved c).In-loop-halfedge) i.invariant

pub returns : goal.returns
returns c = let e : c.loop-halfedge.halfedge ≡ length c.args.vert.now = omega arith in rw (← e) c.loop-halfedge.invariant
