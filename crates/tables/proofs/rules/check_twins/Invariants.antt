use Rattle.tables.specs.Rules.{bad_twin}
use Rattle.halfedges.proofs.Checks.{Clean}
use Rattle.tables.proofs.rules.check_twins.Given as goal

abbrev pub invariant-loop-halfedge : goal.invariant-loop-halfedge
invariant-loop-halfedge l = Clean l.halfedge (bad_twin l.twin)
