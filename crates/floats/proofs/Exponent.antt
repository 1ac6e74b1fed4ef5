-- The exponent of a size is its number of binary digits less one (`exponent_at_most`, `exponent_low`, `exponent_high`), and the
-- toolchain's bits of n/1024 are the definition's (`size_bits_lem`). Assumes nothing.
use Prim.Native.Nat.{ℕ, zero, suc, ◌+◌, ◌-◌, ◌*◌, ◌/◌, ◌^◌, ◌≤◌, ◌<◌}
use mathlib.Core.Path.{◌≡◌, refl, sym, ap, ◌∙◌}
use mathlib.Core.Bool.{Bool, true}
use native.Mathlib.Decide.{dec_le}
use native.Mathlib.Nat.{le_antisymm, lt_of_le_of_lt, mul_assoc, mul-le-mul_right, mul-div_cancel, add-mul, pow-le-pow_right}
use native.Mathlib.Omega.{arith}
use lib.Dec.{ltb, lit<}
use lib.Pow.{pow-add, pow_pos, shl_lt}
use lib.Ieee.{size}
use lib.Ieee.Digits.{size-lt, size-le}
use borrow.Author.Tests.{lt-ltb, ltb-true, ltb-false, ne_eqb}
use Rattle.laws.proofs.Lowest.{lowest_at_most, lowest_passes}
use Rattle.laws.proofs.Tests.{by-test}
use Rattle.floats.specs.Floats.{exponent, size_bits}

module _ (n : ℕ) (few : n ≤ 1048576) where
  test : ℕ → Bool
  test e = ltb n (2 ^ suc e)

  last : test 20 ≡ true
  unfolding test
  last = lt-ltb n (2 ^ 21) (lt_of_le_of_lt few (lit< tt))

  exponent_at_most : exponent n ≤ 20
  unfolding exponent test
  exponent_at_most = lowest_at_most 21 test 20 (lit< tt) last

  exponent_high : n < 2 ^ suc (exponent n)
  unfolding exponent test
  exponent_high = ltb-true n (2 ^ suc (exponent n)) (lowest_passes 21 test 20 (lit< tt) last)

  below : (e : ℕ) → e ≡ exponent n → (j : ℕ) → j < e → 2 ^ suc j ≤ n
  unfolding exponent test
  below e q j l =
      by-test (test j)
      (λ t. let h : exponent n ≤ j = lowest_at_most 21 test j (omega (arith, exponent_at_most)) t in absurd (omega (arith, h)))
      (λ f. ltb-false n (2 ^ suc j) f)

  exponent_low : 0 < n → 2 ^ exponent n ≤ n
  exponent_low h = by (exponent n) refl
    where
      by : (e : ℕ) → e ≡ exponent n → 2 ^ e ≤ n
      by zero q = h
      by (suc j) q = below (suc j) q j (omega arith)

-- how many binary digits a number has
size_is : (a n : ℕ) → 2 ^ a ≤ n → n < 2 ^ suc a → size n ≡ suc a
size_is a n lo hi = le_antisymm (size-le n (suc a) hi) (by (dec_le (suc a) (size n)))
  where
    by : Dec (suc a ≤ size n) → suc a ≤ size n
    by (yes l) = l
    by (no l) = let p : 2 ^ size n ≤ 2 ^ a = pow-le-pow_right (lit< tt) (omega (arith, l)) in absurd (omega (arith, p, size-lt n))

-- n/1024 in units of the smallest value, 2^-149
abbrev pub in_smallest : ℕ → ℕ
in_smallest n = n * 2 ^ 139

module _ (n e : ℕ) (few : e ≤ 20) (lo : 2 ^ e ≤ n) (hi : n < 2 ^ suc e) where
  digits : size (in_smallest n) ≡ suc (e + 139)
  digits =
      size_is (e + 139) (in_smallest n)
      (rw (pow-add 2 e 139) (mul-le-mul_right (2 ^ 139) lo))
      (rw seam (shl_lt (suc e) 139 hi))
    where
      seam : suc (e + 139) ≡ suc e + 139
      seam = omega arith

  dropped : size (in_smallest n) - 24 ≡ e + 116
  dropped = rw digits (omega arith)

  kept : in_smallest n / 2 ^ (e + 116) ≡ n * 2 ^ (23 - e)
  kept = ap (λ m. m / 2 ^ (e + 116)) split ∙ mul-div_cancel (n * 2 ^ (23 - e)) (pow_pos (e + 116))
    where
      all : 23 - e + (e + 116) ≡ 139
      all = omega arith

      split : in_smallest n ≡ n * 2 ^ (23 - e) * 2 ^ (e + 116)
      split = ap (λ k. n * 2 ^ k) (sym all) ∙ ap (λ m. n * m) (pow-add 2 (23 - e) (e + 116)) ∙ sym (mul_assoc n (2 ^ (23 - e)) (2 ^ (e + 116)))

  -- the leading digit adds one to the exponent's field
  leading : n * 2 ^ (23 - e) ≡ 2 ^ 23 + (n - 2 ^ e) * 2 ^ (23 - e)
  leading = ap (λ m. m * 2 ^ (23 - e)) apart ∙ add-mul (2 ^ e) (n - 2 ^ e) (2 ^ (23 - e)) ∙ ap (λ m. m + (n - 2 ^ e) * 2 ^ (23 - e)) one
    where
      apart : n ≡ 2 ^ e + (n - 2 ^ e)
      apart = omega arith

      all : e + (23 - e) ≡ 23
      all = omega arith

      one : 2 ^ e * 2 ^ (23 - e) ≡ 2 ^ 23
      one = sym (pow-add 2 e (23 - e)) ∙ ap (λ k. 2 ^ k) all

  bits_of : (size (in_smallest n) - 24) * 2 ^ 23 + in_smallest n / 2 ^ (size (in_smallest n) - 24) ≡ (e + 127 - 10) * 2 ^ 23 + (n - 2 ^ e) * 2 ^ (23 - e)
  bits_of = rw (dropped, kept, leading) (field _)
    where
      field : (f : ℕ) → (e + 116) * 2 ^ 23 + (2 ^ 23 + f) ≡ (e + 127 - 10) * 2 ^ 23 + f
      field f = omega arith

-- what the toolchain writes for the size of n/1024
abbrev written : ℕ → ℕ
written n = (size (in_smallest n) - 24) * 2 ^ 23 + in_smallest n / 2 ^ (size (in_smallest n) - 24)

none : written 0 ≡ 0
unfolding size
none = refl

pub size_bits_lem : (n : ℕ) → n ≤ 1048576 → written n ≡ size_bits n
unfolding size_bits
size_bits_lem zero few = none
size_bits_lem (suc n) few =
    rw (ne_eqb (suc n) 0 (λ e. omega arith))
    (bits_of (suc n) (exponent (suc n)) (exponent_at_most (suc n) few) (exponent_low (suc n) few (omega arith)) (exponent_high (suc n) few))
