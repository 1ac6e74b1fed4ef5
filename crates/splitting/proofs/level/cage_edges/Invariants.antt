use Prim.Native.Nat.{◌*◌}
use Rattle.splitting.proofs.Triangles.{EdgesFilled}
use Rattle.splitting.proofs.level.cage_edges.Given as goal

abbrev pub invariant-loop-triangle : goal.invariant-loop-triangle
invariant-loop-triangle l = EdgesFilled l.level.halfedges l.level.edges l.at l.initial.edge l.twin l.edge (3 * l.triangle)
