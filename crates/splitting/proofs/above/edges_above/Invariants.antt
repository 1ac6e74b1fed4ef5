use Prim.Native.Nat.{◌*◌}
use Rattle.splitting.proofs.Triangles.{EdgesFilled}
use Rattle.splitting.proofs.above.edges_above.Given as goal

abbrev pub invariant-loop-corner : goal.invariant-loop-corner
invariant-loop-corner l = EdgesFilled l.level.halfedges l.level.edges l.at l.fn.edge l.twin l.edge (3 * l.corner)

abbrev pub invariant-loop-middle : goal.invariant-loop-middle
invariant-loop-middle l = EdgesFilled l.level.halfedges l.level.edges l.at l.fn.edge l.twin l.edge (3 * l.middle)
