use Rattle.tables.specs.Fans.{not_one_fan}
use Rattle.halfedges.proofs.Checks.{Clean}
use Rattle.tables.proofs.fans.first_not_one_fan.Given as goal

abbrev pub invariant-loop-vertex : goal.invariant-loop-vertex
invariant-loop-vertex l = Clean l.vertex (not_one_fan l.twin l.vert)
