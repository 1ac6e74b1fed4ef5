use Rattle.tables.specs.Rules.{bad_vertex}
use Rattle.halfedges.proofs.Checks.{Clean}
use Rattle.tables.proofs.rules.check_vertices.Given as goal

abbrev pub invariant-loop-halfedge : goal.invariant-loop-halfedge
invariant-loop-halfedge l = Clean l.halfedge (bad_vertex l.twin l.vert l.vertices)
