use Rattle.creases.proofs.Written.{Written}
use Rattle.creases.proofs.levels.write_creases.Given as goal

abbrev pub invariant-loop-level : goal.invariant-loop-level
invariant-loop-level l = Written l.initial.table l.depth l.creases l.initial.lent l.lent l.table l.at l.level
