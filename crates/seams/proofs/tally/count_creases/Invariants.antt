use Rattle.tables.specs.Tables.{held}
use Rattle.seams.specs.Internal.Tally.{CreasesTallied}
use Rattle.seams.proofs.tally.count_creases.Given as goal

abbrev pub invariant-loop-halfedge : goal.invariant-loop-halfedge
invariant-loop-halfedge l = CreasesTallied l.halfedge l.level (held l.cage) l.creases l.counts
