use Rattle.creases.specs.Internal.Borders.{MarkedTo}
use Rattle.creases.proofs.check.mark_borders.Given as goal

abbrev pub invariant-loop-halfedge : goal.invariant-loop-halfedge
invariant-loop-halfedge l = MarkedTo l.twin l.edge l.halfedge l.borders
