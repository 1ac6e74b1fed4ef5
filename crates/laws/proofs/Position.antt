-- Where the library's `position` stops: at the lowest place that passes a test (`position_lowest`), and past the end where none does
-- (`found_lowest`). Assumes nothing.
use Prim.Native.Nat.{ℕ, suc, ◌+◌, ◌≤◌}
use mathlib.Core.Path.{◌≡◌, refl, ap, ◌∙◌}
use mathlib.Core.Bool.{Bool, true, false, cond, not}
use mathlib.Core.List.{List, [], ◌∷◌}
use native.Mathlib.Omega.{arith}
use lib.Dec.{ltb}
use lib.ListN.{length, get_or}
use borrow.Author.Tests.{ltb-false}
use Rattle.std.specs.Prelude.{Option, Some, None}
use Rattle.std.specs.List.{position_or_len}
use Rattle.std.specs.Option.{unwrap_or}
use Rattle.laws.specs.Below.{lowest}
use Rattle.laws.proofs.Lowest.{lowest_within}

step : (b : Bool) (m n : ℕ) → m ≡ n → cond (not b) (1 + m) 0 ≡ cond b 0 (suc n)
step true m n e = refl
step false m n e = omega arith

found : (b : Bool) (p l : ℕ) → p ≤ l → (b ≡ false → l ≤ p) → unwrap_or (cond b (Some p) None) l ≡ p
found true p l h f = refl
found false p l h f = omega (arith, f refl)

module _ {A : Type 0} (test : A → Bool) (z : A) where
  pub position_lowest : (xs : List A) → position_or_len test xs ≡ lowest (length xs) (λ k. test (get_or xs k z))
  position_lowest [] = refl
  position_lowest (x ∷ xs) = step (test x) _ _ (position_lowest xs)

  pub found_lowest : (xs : List A) (r : Option ℕ) (n : ℕ) → r ≡ cond (ltb (position_or_len test xs) (length xs)) (Some (position_or_len test xs)) None
      → n ≡ unwrap_or r (length xs) → n ≡ lowest (length xs) (λ k. test (get_or xs k z))
  found_lowest xs r n e f =
      let within : position_or_len test xs ≤ length xs = rw (position_lowest xs) (lowest_within (length xs) (λ k. test (get_or xs k z))) in
      f ∙ ap (λ s. unwrap_or s (length xs)) e ∙ found _ _ _ within (ltb-false _ _) ∙ position_lowest xs
