-- `is_numbered` looks at the weight's number, and then at the creases.
use Prim.Native.Nat.{ℕ}
use mathlib.Core.Path.{◌≡◌, ◌∙◌}
use mathlib.Core.Logic.{◌≢◌}
use mathlib.Core.Bool.{true}
use mathlib.Core.List.{List}
use native.Mathlib.Omega.{arith}
use borrow.Author.Tests.{ne_eqb, lt-ltb, le-ltb}
use Rattle.laws.proofs.Tests.{or_true, or_false_right}
use Rattle.points.specs.declared.weights.Weight.{Weight}
use Rattle.points.specs.Weights.{weight_number}
use Rattle.seams.specs.Internal.Seams.{any_sharp}
use Rattle.moves.specs.Moves.{numbered}
use Rattle.moves.proofs.is_numbered.Goals as goal

module _ (creases : List ℕ) (w : Weight) where
  weighted : weight_number w ≢ 0 → true ≡ numbered creases w
  unfolding numbered
  weighted n = rw (lt-ltb 0 (weight_number w) (omega (arith, n)), or_true)

  by_creases : weight_number w ≡ 0 → any_sharp creases 0 ≡ numbered creases w
  unfolding numbered any_sharp
  by_creases z = rw (le-ltb 0 (weight_number w) (omega arith), or_false_right)

pub returns-then-from-ne0 : goal.returns-then-from-ne0
returns-then-from-ne0 c = rw (ne_eqb c.from.result 0 c.if-from-ne0.true) (weighted _ _ (λ z. omega (arith, c.from.ensures, c.if-from-ne0.true)))

pub returns-else-from-ne0 : goal.returns-else-from-ne0
returns-else-from-ne0 c = c.any_sharp.ensures ∙ by_creases _ _ (omega (arith, c.from.ensures, c.if-from-ne0.false))
