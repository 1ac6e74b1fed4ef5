-- `cage_edges` goes through the triangles, and the level that it reads stands untouched before what it writes.
use native.Mathlib.Omega.{arith}
use Rattle.splitting.proofs.Triangles.{filled-start, edges_ready, edges_on, edges_done}
use Rattle.splitting.proofs.level.cage_edges.Goals as goal

pub loop-triangle-init : goal.loop-triangle-init
loop-triangle-init c = filled-start c.requires.housed.0

pub put_edges-requires-clause-each_of : goal.put_edges-requires-clause-each_of
put_edges-requires-clause-each_of c = edges_ready c.requires.housed.1 c.loop-triangle.invariant c.requires.small_edges (omega arith)

pub loop-triangle-preserved : goal.loop-triangle-preserved
loop-triangle-preserved c =
    edges_on c.requires.housed.1 c.loop-triangle.invariant (omega arith) (λ j. (c.above_at-a.ensures j, c.above_at-b.ensures j, c.above_at-c.ensures j)) c.put_edges.ensures (omega arith)

pub returns : goal.returns
returns c = edges_done c.requires.housed.1 c.loop-triangle.invariant (omega arith)
