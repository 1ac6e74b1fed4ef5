use Prim.Native.Nat.{◌*◌}
use mathlib.Core.Path.{◌≡◌}
use Rattle.laws.specs.Internal.Steps.{steps}
use Rattle.spokes.specs.Internal.Spokes.{spoke}
use Rattle.spokes.proofs.spokes.add_spokes.Given as goal

abbrev pub invariant-loop-triangle : goal.invariant-loop-triangle
invariant-loop-triangle l = l.points ≡ steps (3 * l.triangle) (spoke l.vert l.vertices) l.initial.points
