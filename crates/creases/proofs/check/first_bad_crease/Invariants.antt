use Rattle.halfedges.proofs.Checks.{Clean}
use Rattle.creases.specs.Creases.{bad_crease}
use Rattle.creases.proofs.check.first_bad_crease.Given as goal

abbrev pub invariant-loop-number : goal.invariant-loop-number
invariant-loop-number l = Clean l.number (bad_crease l.twin l.edge l.creases)
