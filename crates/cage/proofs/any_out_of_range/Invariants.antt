use mathlib.Core.Path.{◌≡◌}
use Rattle.laws.specs.Below.{any}
use Rattle.points.specs.Operations.{out_of_range}
use Rattle.cage.proofs.any_out_of_range.Given as goal

abbrev pub invariant-loop-coordinate : goal.invariant-loop-coordinate
invariant-loop-coordinate l = l.found ≡ any l.coordinate-index (out_of_range l.points)
