use Rattle.tables.specs.Rules.{unused}
use Rattle.halfedges.proofs.Checks.{Clean}
use Rattle.tables.proofs.rules.first_unused.Given as goal

abbrev pub invariant-loop-vertex : goal.invariant-loop-vertex
invariant-loop-vertex l = Clean l.vertex (unused l.vert)
