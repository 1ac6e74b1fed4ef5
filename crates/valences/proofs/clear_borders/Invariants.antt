use Rattle.valences.specs.Internal.Inside.{Cleared}
use Rattle.valences.proofs.clear_borders.Given as goal

abbrev pub invariant-loop-halfedge : goal.invariant-loop-halfedge
invariant-loop-halfedge l = Cleared l.twin l.vert l.halfedge l.initial.corners l.corners
