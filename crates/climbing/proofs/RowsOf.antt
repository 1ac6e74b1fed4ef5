-- The four rows of `rows_of`, each at its own cells. Assumes nothing.
use Prim.Native.Nat.{ℕ, ◌-◌, ◌*◌, ◌/◌, ◌%◌, ◌≤◌, ◌<◌}
use mathlib.Core.Path.{◌≡◌}
use mathlib.Core.Logic.{◌≢◌}
use native.Mathlib.Omega.{arith}
use borrow.Author.Tests.{eq-eqb, ne_eqb, lt-ltb, le-ltb}
use Rattle.climbing.specs.Internal.Climbing.{rows_of}

module _ {A : Type 0} (n : ℕ) (r₀ r₁ r₂ r₃ : ℕ → A) (k : ℕ) where
  pub corner_row_of : k < 3 * n → k % 3 ≡ 0 → rows_of n r₀ r₁ r₂ r₃ k ≡ r₀ (k / 3)
  unfolding rows_of
  corner_row_of l e = simp (lt-ltb _ _ l, eq-eqb _ _ e)

  pub across_row_of : k < 3 * n → k % 3 ≡ 1 → rows_of n r₀ r₁ r₂ r₃ k ≡ r₁ (k / 3)
  unfolding rows_of
  across_row_of l e = let z : k % 3 ≢ 0 = λ q. omega arith in simp (lt-ltb _ _ l, ne_eqb _ _ z, eq-eqb _ _ e)

  pub back_row_of : k < 3 * n → k % 3 ≢ 0 → k % 3 ≢ 1 → rows_of n r₀ r₁ r₂ r₃ k ≡ r₂ (k / 3)
  unfolding rows_of
  back_row_of l z o = simp (lt-ltb _ _ l, ne_eqb _ _ z, ne_eqb _ _ o)

  pub middle_row_of : 3 * n ≤ k → rows_of n r₀ r₁ r₂ r₃ k ≡ r₃ (k - 3 * n)
  unfolding rows_of
  middle_row_of l = simp (le-ltb _ _ l)
