-- The four rows of the next level's table, each at its own cells. Assumes nothing.
use Prim.Native.Nat.{ℕ, ◌+◌, ◌-◌, ◌*◌, ◌/◌, ◌%◌, ◌≤◌, ◌<◌}
use mathlib.Core.Path.{◌≡◌, ap, ◌∙◌}
use mathlib.Core.Logic.{◌≢◌}
use native.Mathlib.Decide.{dec_lt, ℕ_discrete}
use native.Mathlib.Omega.{arith}
use borrow.Author.Tests.{eq-eqb, ne_eqb, lt-ltb, le-ltb}
use Rattle.splitting.specs.NextLevel.{rows}

module _ (n : ℕ) (r₀ r₁ r₂ r₃ : ℕ → ℕ) where
  pub corner_row : (k : ℕ) → k < 3 * n → k % 3 ≡ 0 → rows n r₀ r₁ r₂ r₃ k ≡ r₀ (k / 3)
  unfolding rows
  corner_row k l e = simp (lt-ltb _ _ l, eq-eqb _ _ e)

  pub across_row : (k : ℕ) → k < 3 * n → k % 3 ≡ 1 → rows n r₀ r₁ r₂ r₃ k ≡ r₁ (k / 3)
  unfolding rows
  across_row k l e = let z : k % 3 ≢ 0 = λ q. omega arith in simp (lt-ltb _ _ l, ne_eqb _ _ z, eq-eqb _ _ e)

  pub back_row : (k : ℕ) → k < 3 * n → k % 3 ≢ 0 → k % 3 ≢ 1 → rows n r₀ r₁ r₂ r₃ k ≡ r₂ (k / 3)
  unfolding rows
  back_row k l z o = simp (lt-ltb _ _ l, ne_eqb _ _ z, ne_eqb _ _ o)

  pub middle_row : (k : ℕ) → 3 * n ≤ k → rows n r₀ r₁ r₂ r₃ k ≡ r₃ (k - 3 * n)
  unfolding rows
  middle_row k l = simp (le-ltb _ _ l)

  module _ (h : ℕ) (l : h < n) where
    pub at_corner : rows n r₀ r₁ r₂ r₃ (3 * h) ≡ r₀ h
    at_corner = corner_row (3 * h) (omega arith) (omega arith) ∙ ap r₀ (let e : 3 * h / 3 ≡ h = omega arith in e)

    pub at_across : rows n r₀ r₁ r₂ r₃ (3 * h + 1) ≡ r₁ h
    at_across = across_row (3 * h + 1) (omega arith) (omega arith) ∙ ap r₁ (let e : (3 * h + 1) / 3 ≡ h = omega arith in e)

    pub at_back : rows n r₀ r₁ r₂ r₃ (3 * h + 2) ≡ r₂ h
    at_back =
        back_row (3 * h + 2) (omega arith) (λ e. omega arith) (λ e. omega arith)
        ∙ ap r₂ (let e : (3 * h + 2) / 3 ≡ h = omega arith in e)

    pub at_middle : rows n r₀ r₁ r₂ r₃ (3 * n + h) ≡ r₃ h
    at_middle = middle_row (3 * n + h) (omega arith) ∙ ap r₃ (let e : 3 * n + h - 3 * n ≡ h = omega arith in e)

  -- what holds of every row's cells holds of every new cell
  pub every_row : (P : ℕ → Type 0) → ((h : ℕ) → h < n → P (r₀ h)) → ((h : ℕ) → h < n → P (r₁ h)) → ((h : ℕ) → h < n → P (r₂ h)) → ((h : ℕ) → h < n → P (r₃ h)) → (k : ℕ) → k < 4 * n → P (rows n r₀ r₁ r₂ r₃ k)
  every_row P p₀ p₁ p₂ p₃ k l = by (dec_lt k (3 * n))
    where
      in_triangle : k < 3 * n → Dec (k % 3 ≡ 0) → Dec (k % 3 ≡ 1) → P (rows n r₀ r₁ r₂ r₃ k)
      in_triangle m (yes z) d = rw (corner_row k m z) (p₀ (k / 3) (omega arith))
      in_triangle m (no z) (yes o) = rw (across_row k m o) (p₁ (k / 3) (omega arith))
      in_triangle m (no z) (no o) = rw (back_row k m z o) (p₂ (k / 3) (omega arith))

      by : Dec (k < 3 * n) → P (rows n r₀ r₁ r₂ r₃ k)
      by (yes m) = in_triangle m (ℕ_discrete (k % 3) 0) (ℕ_discrete (k % 3) 1)
      by (no m) = rw (middle_row k (omega (arith, m))) (p₃ (k - 3 * n) (omega (arith, m)))
