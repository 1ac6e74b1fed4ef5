-- `next_verts` goes through the triangles, and the level that it reads stands untouched before what it writes.
use native.Mathlib.Omega.{arith}
use Rattle.splitting.proofs.Triangles.{filled-start, verts_on, verts_done}
use Rattle.splitting.proofs.level.next_verts.Goals as goal

pub loop-triangle-init : goal.loop-triangle-init
loop-triangle-init c = filled-start c.requires.housed.0

pub loop-triangle-preserved : goal.loop-triangle-preserved
loop-triangle-preserved c =
    verts_on c.requires.housed.1 c.loop-triangle.invariant (omega arith) c.three.ensures c.three-in-loop-triangle.ensures c.split_verts-split.ensures c.put.ensures (omega arith)

pub returns : goal.returns
returns c = verts_done c.requires.housed.1 c.loop-triangle.invariant (omega arith)
