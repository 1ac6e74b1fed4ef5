use Rattle.tables.specs.Rules.{bad_edge}
use Rattle.halfedges.proofs.Checks.{Clean}
use Rattle.tables.proofs.rules.first_bad_edge.Given as goal

abbrev pub invariant-loop-halfedge : goal.invariant-loop-halfedge
invariant-loop-halfedge l = Clean l.halfedge (bad_edge l.twin l.edge l.edges)
