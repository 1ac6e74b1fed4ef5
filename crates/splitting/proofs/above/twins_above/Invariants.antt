use Prim.Native.Nat.{◌+◌, ◌*◌}
use Rattle.splitting.proofs.Triangles.{TwinsFilled}
use Rattle.splitting.proofs.above.twins_above.Given as goal

abbrev pub invariant-loop-triangle : goal.invariant-loop-triangle
invariant-loop-triangle l = TwinsFilled l.halfedges l.at l.fn.twin l.twin (3 * (3 * l.triangle))

abbrev pub invariant-loop-triangle-2 : goal.invariant-loop-triangle-2
invariant-loop-triangle-2 l = TwinsFilled l.halfedges l.at l.fn.twin l.twin (3 * l.before + 3 * l.triangle)
