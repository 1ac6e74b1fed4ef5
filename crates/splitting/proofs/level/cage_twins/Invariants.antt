use Prim.Native.Nat.{◌*◌}
use Rattle.splitting.proofs.Triangles.{TwinsFilled}
use Rattle.splitting.proofs.level.cage_twins.Given as goal

abbrev pub invariant-loop-triangle : goal.invariant-loop-triangle
invariant-loop-triangle l = TwinsFilled l.halfedges l.at l.initial.twin l.twin (3 * l.triangle)
