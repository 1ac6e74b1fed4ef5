use mathlib.Core.Path.{◌≡◌}
use Rattle.laws.specs.Internal.Steps.{steps}
use Rattle.spokes.specs.Internal.Fours.{four_spokes}
use Rattle.spokes.proofs.fours.add_fours.Given as goal

abbrev pub invariant-loop-triangle : goal.invariant-loop-triangle
invariant-loop-triangle l = l.points ≡ steps l.triangle (four_spokes l.vert l.vertices) l.initial.points
