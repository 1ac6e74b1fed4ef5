use Prim.Native.Nat.{◌*◌}
use Rattle.splitting.proofs.Triangles.{VertsFilled}
use Rattle.splitting.proofs.level.next_verts.Given as goal

abbrev pub invariant-loop-triangle : goal.invariant-loop-triangle
invariant-loop-triangle l = VertsFilled l.halfedges l.vertices l.at l.initial.vert l.edge l.vert (3 * l.triangle)
