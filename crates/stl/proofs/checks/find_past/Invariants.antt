use Rattle.halfedges.proofs.Checks.{Clean}
use Rattle.stl.specs.Writing.{past_points}
use Rattle.stl.proofs.checks.find_past.Given as goal

abbrev pub invariant-loop-halfedge : goal.invariant-loop-halfedge
invariant-loop-halfedge l = Clean l.halfedge (past_points l.vert l.vertices)
