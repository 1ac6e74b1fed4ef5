-- Selections below n and their counts: `length-select`, `count_grows`, `count_before`. Assumes nothing.
use Prim.Native.Nat.{ℕ, zero, suc, ◌+◌, ◌≤◌, ◌<◌}
use mathlib.Core.Path.{◌≡◌, refl, ap, ◌∙◌}
use mathlib.Core.Bool.{Bool, true, false, cond}
use mathlib.Core.List.{[], ◌∷◌}
use lib.ListN.{length, length-append}
use Rattle.laws.specs.Below.{count, select}
use Rattle.laws.proofs.Sums.{sum_grows}

module _ (p : ℕ → Bool) where
  pub length-select : (n : ℕ) → length (select n p) ≡ count n p
  length-select zero = refl
  length-select (suc n) = length-append (select n p) (cond (p n) (n ∷ []) []) ∙ ap (λ k. k + length (cond (p n) (n ∷ []) [])) (length-select n) ∙ ap (λ k. count n p + k) (by (p n))
    where
      by : (b : Bool) → length (cond b (n ∷ []) []) ≡ cond b 1 0
      by true = refl
      by false = refl

  -- those below i are among those below n
  pub count_grows : (i n : ℕ) → i ≤ n → count i p ≤ count n p
  count_grows = sum_grows (λ k. cond (p k) 1 0)

  -- one that passes is counted above it
  pub count_before : (i n : ℕ) → i < n → p i ≡ true → count i p + 1 ≤ count n p
  count_before i n l e = rw e at (count_grows (suc i) n l)
