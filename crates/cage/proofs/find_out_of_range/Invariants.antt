use Rattle.halfedges.proofs.Checks.{Clean}
use Rattle.points.specs.Operations.{out_of_range}
use Rattle.cage.proofs.find_out_of_range.Given as goal

abbrev pub invariant-loop-place : goal.invariant-loop-place
invariant-loop-place l = Clean l.place (out_of_range l.points)
