use Rattle.halfedges.proofs.Checks.{Clean}
use Rattle.points.specs.Operations.{many_corners}
use Rattle.valences.proofs.first_of_many.Given as goal

abbrev pub invariant-loop-vertex : goal.invariant-loop-vertex
invariant-loop-vertex l = Clean l.vertex (many_corners l.twin l.vert)
