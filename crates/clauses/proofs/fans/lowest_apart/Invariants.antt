use Rattle.halfedges.proofs.Checks.{Clean}
use Rattle.clauses.specs.Clauses.{apart}
use Rattle.clauses.proofs.fans.lowest_apart.Given as goal

abbrev pub invariant-loop-halfedge : goal.invariant-loop-halfedge
invariant-loop-halfedge l = Clean l.halfedge (apart l.twin l.vert l.vertex l.corner)
