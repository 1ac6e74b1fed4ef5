-- A floor by way of a numerator that is raised by some wholes and so not negative: `raised_is`, `raised_small`, `raised_floor`.
-- What is divided fits where the numerator does: `floor_fits`. Assumes nothing.
use Prim.Native.Nat.{ℕ, suc, ◌+◌, ◌-◌, ◌*◌, ◌/◌, ◌≤◌, ◌<◌}
use mathlib.Core.Path.{◌≡◌, refl, ap, ◌∙◌}
use native.Mathlib.Nat.{div-le_self, lt_of_le_of_lt, add-mul-div_right, div-mul-le_self, lt-div-mul-add, div-eq_of_lt-le, div-lt_iff_lt-mul, mul-sub, mul_comm, add-mul, one-mul, suc-mul, mul-le-mul_right}
use native.Mathlib.Omega.{arith}
use lib.IntN.{ℤ, pos, negsuc, neg_ℤ, nat_abs, sub_ℕ, ◌+ℤ◌, ◌-ℤ◌, +ℤ_comm}
use mir.Syntax.{Width}
use mir.Val.{SFits}
use Rattle.laws.proofs.Integers.{subℕ_pos, subℕ_neg, neg_add}
use Rattle.rounding.specs.Internal.Floor.{floor}

-- a number of at most m, raised by m
abbrev pub raised : ℤ → ℕ → ℕ
raised (pos a) m = a + m
raised (negsuc a) m = m - suc a

pub raised_is : (n : ℤ) (m : ℕ) → nat_abs n ≤ m → n +ℤ pos m ≡ pos (raised n m)
raised_is (pos a) m l = refl
raised_is (negsuc a) m l = neg_add (suc a) m ∙ subℕ_pos m (suc a) l

pub raised_small : (n : ℤ) (m : ℕ) → nat_abs n < m → raised n m < 2 * m
raised_small (pos a) m l = omega arith
raised_small (negsuc a) m l = omega arith

-- k taken away
less : (x k : ℕ) → pos x -ℤ pos k ≡ sub_ℕ x k
less x k = +ℤ_comm (pos x) (neg_ℤ (pos k)) ∙ neg_add k x

-- differences of multiples
multiples_less : (m n d : ℕ) → (m - n) * d ≡ m * d - n * d
multiples_less m n d = mul_comm (m - n) d ∙ mul-sub d m n ∙ rw (mul_comm d m, mul_comm d n)

module _ (k d : ℕ) (some : 0 < d) where
  module _ (a : ℕ) (l : a < k * d) where
    wholes_below : a / d < k
    wholes_below = (div-lt_iff_lt-mul some).1 l

    below_quotient : (k * d - suc a) / d ≡ k - suc (a / d)
    below_quotient =
        let low = div-mul-le_self a d in
        let high = lt-div-mul-add {a = a} some in
        let some-wholes : suc (a / d) * d ≤ k * d = mul-le-mul_right d (omega (arith, wholes_below)) in
        let e = multiples_less k (suc (a / d)) d in
        let f = suc-mul (a / d) d in
        let g = add-mul (k - suc (a / d)) 1 d in
        div-eq_of_lt-le {k = k - suc (a / d)} d {m = k * d - suc a}
        (omega (arith, low, high, some-wholes, e, f, one-mul d))
        (omega (arith, low, high, some-wholes, e, f, g, one-mul d))

  pub raised_floor : (n : ℤ) → nat_abs n < k * d → pos (raised n (k * d) / d) -ℤ pos k ≡ floor n d
  raised_floor (pos a) l =
      less (raised (pos a) (k * d) / d) k ∙ rw (add-mul-div_right a k some, subℕ_pos (a / d + k) k (omega arith)) (ap pos (omega arith))
  raised_floor (negsuc a) l =
      let m : a < k * d = omega arith in
      let q = wholes_below a m in
      less (raised (negsuc a) (k * d) / d) k
      ∙ rw (below_quotient a m, subℕ_neg (k - suc (a / d)) k (omega (arith, q))) (ap negsuc (omega (arith, q)))

pub floor_fits : (w : Width) (n : ℤ) (d : ℕ) → SFits w n → SFits w (floor n d)
floor_fits w (pos a) d f = record { sfits = lt_of_le_of_lt (div-le_self a d) f.sfits }
floor_fits w (negsuc a) d f = record { sfits = lt_of_le_of_lt (div-le_self a d) f.sfits }
