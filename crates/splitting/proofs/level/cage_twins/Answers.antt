-- `cage_twins` goes through the triangles, and the level that it reads stands untouched before what it writes.
use native.Mathlib.Omega.{arith}
use Rattle.splitting.proofs.Triangles.{filled-start, twins_ready, twins_on, twins_done}
use Rattle.splitting.proofs.level.cage_twins.Goals as goal

pub loop-triangle-init : goal.loop-triangle-init
loop-triangle-init c = filled-start c.requires.housed

pub split_twins-split-requires : goal.split_twins-split-requires
split_twins-split-requires c = twins_ready c.loop-triangle.invariant c.requires.small_twins (omega arith) c.three.ensures

pub loop-triangle-preserved : goal.loop-triangle-preserved
loop-triangle-preserved c =
    twins_on c.loop-triangle.invariant (omega arith) c.three.ensures c.split_twins-split.ensures c.put.ensures (omega arith)

pub returns : goal.returns
returns c = twins_done c.loop-triangle.invariant (omega arith)
