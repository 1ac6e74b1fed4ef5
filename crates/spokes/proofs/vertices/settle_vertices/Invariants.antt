use Prim.Native.Nat.{◌+◌, ◌-◌}
use mathlib.Core.Path.{◌≡◌}
use Rattle.laws.specs.Internal.Steps.{steps}
use Rattle.points.specs.declared.weights.Weight.{Weight}
use Rattle.spokes.specs.Internal.Vertices.{settle}
use Rattle.spokes.proofs.vertices.settle_vertices.Given as goal

abbrev pub invariant-loop-i : goal.invariant-loop-i
invariant-loop-i l = l.points ≡ steps l.i (settle l.weight l.own l.vertices) l.initial.points

abbrev pub invariant-loop-i-2 : goal.invariant-loop-i-2
invariant-loop-i-2 l = (w : Weight) → l.points ≡ steps (l.i - l.own_cells) (λ j. settle w l.own l.vertices (l.own_cells + j)) l.initial.points
