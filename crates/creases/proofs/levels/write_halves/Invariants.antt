use Rattle.creases.specs.Internal.Writing.{left_at}
use Rattle.creases.proofs.Filled.{Filled}
use Rattle.creases.proofs.levels.write_halves.Given as goal

abbrev pub invariant-loop-half : goal.invariant-loop-half
invariant-loop-half l = Filled (left_at l.creases l.level) l.initial.halves l.halves l.half
