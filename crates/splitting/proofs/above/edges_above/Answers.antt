-- `edges_above` goes through the corner triangles and then through the middle ones, whose rows say which halfedges are above their twins.
use Prim.Native.Nat.{◌+◌, ◌*◌}
use native.Mathlib.Omega.{arith}
use Rattle.splitting.proofs.Triangles.{filled-start, edges_ready, edges_on, edges_done}
use Rattle.splitting.proofs.Descent.{across_below, middle-above}
use Rattle.splitting.proofs.above.edges_above.Goals as goal

pub loop-corner-init : goal.loop-corner-init
loop-corner-init c = filled-start c.requires.housed.0

pub put_edges-requires-clause-each_of : goal.put_edges-requires-clause-each_of
put_edges-requires-clause-each_of c = edges_ready c.requires.housed.1 c.loop-corner.invariant c.requires.small_edges.0 (omega arith)

pub loop-corner-preserved : goal.loop-corner-preserved
loop-corner-preserved c =
    let second = across_below c.requires.housed.1 c.requires.small_edges.1 (3 * c.loop-corner.corner) c.loop-corner.invariant.first (omega arith) in
    edges_on c.requires.housed.1 c.loop-corner.invariant (omega arith) (λ j. (c.above_at-a.ensures j, second j, c.above_at-c.ensures j)) c.put_edges.ensures (omega arith)

pub put_edges-requires-in-loop-middle-clause-each_of : goal.put_edges-requires-in-loop-middle-clause-each_of
put_edges-requires-in-loop-middle-clause-each_of c = edges_ready c.requires.housed.1 c.loop-middle.invariant c.requires.small_edges.0 (omega arith)

pub loop-middle-preserved : goal.loop-middle-preserved
loop-middle-preserved c =
    let first = 3 * c.loop-middle.middle in
    let up = middle-above c.requires.housed.1 c.requires.small_edges.1 in
    edges_on c.requires.housed.1 c.loop-middle.invariant (omega arith)
    (λ j. (up first (omega arith) (omega arith) j, up (first + 1) (omega arith) (omega arith) j, up (first + 2) (omega arith) (omega arith) j))
    c.put_edges-in-loop-middle.ensures (omega arith)

pub returns : goal.returns
returns c = edges_done c.requires.housed.1 c.loop-middle.invariant (omega arith)
