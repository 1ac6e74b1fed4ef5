-- `write_halves` has written what is left to the edges passed.
use Rattle.creases.proofs.Filled.{filled_on, filled_all}
use Rattle.creases.proofs.levels.write_halves.Goals as goal

pub loop-half-preserved : goal.loop-half-preserved
loop-half-preserved c = filled_on _ c.loop-half.invariant c.loop-half-test.true c.left_over.ensures

pub returns : goal.returns
returns c = filled_all _ c.loop-half.invariant c.loop-half-test.false
