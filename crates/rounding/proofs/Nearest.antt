-- Rounding to the nearest whole number, halves going away from zero. Assumes nothing.
--     round_odd         a negated numerator rounds to the negated number
--     round_at_most     a small numerator rounds to a small number
--     doubled           wholes of twice a denominator
--     round_by_floor    over an even denominator it is a floor, half of that being added, and one less below zero: `lowered`
use Prim.Native.Nat.{ℕ, zero, suc, ◌+◌, ◌-◌, ◌*◌, ◌/◌, ◌≤◌, ◌<◌}
use mathlib.Core.Path.{◌≡◌, refl, sym, ap, ◌∙◌}
use native.Mathlib.Decide.{dec_le}
use native.Mathlib.Nat.{add-zero, mul_assoc, mul_comm, mul-add, add-mul, one-mul, div-lt_iff_lt-mul, div-eq_of_lt, mul-div-mul_left, add-mul-div_right}
use native.Mathlib.Omega.{arith}
use lib.IntN.{ℤ, pos, negsuc, neg_ℤ, nat_abs, sub_ℕ, ◌+ℤ◌, neg_ℤ-neg_ℤ}
use Rattle.laws.proofs.Integers.{subℕ_pos, subℕ_neg, nat_abs_neg}
use Rattle.rounding.specs.Rounding.{nearest, round}
use Rattle.rounding.specs.Internal.Floor.{floor}

zero_rounds : (d : ℕ) → nearest 0 d ≡ 0
zero_rounds zero = refl
zero_rounds (suc d) = div-eq_of_lt {m = 2 * suc d} (omega arith)

pub round_odd : (z : ℤ) (d : ℕ) → round (neg_ℤ z) d ≡ neg_ℤ (round z d)
unfolding round
round_odd (pos zero) d = rw (zero_rounds d)
round_odd (pos (suc n)) d = refl
round_odd (negsuc n) d = sym (neg_ℤ-neg_ℤ (pos (nearest (suc n) d)))

-- m wholes of twice d
pub doubled : (m d : ℕ) → m * (2 * d) ≡ 2 * (m * d)
doubled m d = rw (← mul_assoc m 2 d, mul_comm m 2, mul_assoc 2 m d)

module _ (m d : ℕ) (some : 0 < d) where
  nearest_at_most : (n : ℕ) → n ≤ m * d → nearest n d ≤ m
  nearest_at_most n l =
      let q : nearest n d < m + 1 = (div-lt_iff_lt-mul {k = 2 * d} (omega arith)).1 (omega (arith, doubled m d, add-mul m 1 (2 * d), one-mul (2 * d))) in
      omega arith

  -- a numerator of at most m denominators rounds to at most m
  pub round_at_most : (z : ℤ) → nat_abs z ≤ m * d → nat_abs (round z d) ≤ m
  unfolding round
  round_at_most (pos n) l = nearest_at_most n l
  round_at_most (negsuc n) l = rw (nat_abs_neg (pos (nearest (suc n) d))) (nearest_at_most (suc n) l)

-- 0, and −1 below it
abbrev pub sign_of : ℤ → ℤ
sign_of (pos n) = pos 0
sign_of (negsuc n) = negsuc 0

-- what is rounded down, over twice h
abbrev pub lowered : ℤ → ℕ → ℤ
lowered z h = z +ℤ sign_of z +ℤ pos h

module _ (h : ℕ) (some : 0 < h) where
  halved : (n : ℕ) → (n + h) / (2 * h) ≡ nearest n (2 * h)
  halved n = sym (rw (← mul-add 2 n h) (mul-div-mul_left (n + h) (2 * h) (omega arith)))

  -- of a number below zero
  below : (n : ℕ) → floor (sub_ℕ h (suc n)) (2 * h) ≡ neg_ℤ (pos ((n + h) / (2 * h)))
  below n = by (dec_le (suc n) h)
    where
      by : Dec (suc n ≤ h) → floor (sub_ℕ h (suc n)) (2 * h) ≡ neg_ℤ (pos ((n + h) / (2 * h)))
      by (yes l) =
          rw (subℕ_pos h (suc n) l, div-eq_of_lt {n = h - suc n} {m = 2 * h} (omega arith), div-eq_of_lt {n = n + h} {m = 2 * h} (omega (arith, l)))
      by (no l) =
          let e : n + h ≡ suc n - suc h + 1 * (2 * h) = omega (arith, l) in
          let f : (suc n - suc h) / (2 * h) + 1 ≡ suc ((suc n - suc h) / (2 * h)) = omega arith in
          rw (subℕ_neg h (suc n) (omega (arith, l)), e, add-mul-div_right (suc n - suc h) 1 {z = 2 * h} (omega arith), f)

  pub round_by_floor : (z : ℤ) → floor (lowered z h) (2 * h) ≡ round z (2 * h)
  unfolding round
  round_by_floor (pos n) = ap (λ k. pos ((k + h) / (2 * h))) (add-zero n) ∙ ap pos (halved n)
  round_by_floor (negsuc n) = ap (λ k. floor (sub_ℕ h (suc (suc k))) (2 * h)) (add-zero n) ∙ below (suc n) ∙ ap (λ k. neg_ℤ (pos k)) (halved (suc n))
