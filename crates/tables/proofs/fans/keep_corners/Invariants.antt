use Rattle.tables.specs.Internal.Walks.{Kept}
use Rattle.tables.proofs.fans.keep_corners.Given as goal

abbrev pub invariant-loop-halfedge : goal.invariant-loop-halfedge
invariant-loop-halfedge l = Kept l.vert l.halfedge l.kept
