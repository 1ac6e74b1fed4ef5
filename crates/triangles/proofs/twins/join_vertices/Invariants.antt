use Rattle.triangles.proofs.Joins.{Built}
use Rattle.triangles.proofs.twins.join_vertices.Given as goal

abbrev pub invariant-loop-vertex : goal.invariant-loop-vertex
invariant-loop-vertex l =
    Built l.vert l.ends l.vertex l.place l.initial.twin l.twin
