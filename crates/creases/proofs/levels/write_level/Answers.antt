-- `write_level` writes the two parts of a level one after the other.
use native.Mathlib.Omega.{arith}
use Rattle.creases.proofs.Halves.{halves_then_zeros}
use Rattle.creases.proofs.levels.write_level.Goals as goal

pub returns : goal.returns
returns c =
    halves_then_zeros c.args.creases.now c.args.level c.args.at c.args.edges c.args.lent.now c.requires (omega arith) c.write_halves.ensures (c.fill.ensures.after (λ y e. e))
