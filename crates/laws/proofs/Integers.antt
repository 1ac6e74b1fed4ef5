-- Laws of whole numbers. Assumes nothing.
--     nat_abs_add, nat_abs_mul, nat_abs_neg    how large a sum, a product and a negation are
--     subℕ_pos, subℕ_neg, neg_add           a difference of two numbers, by which is more
--     zero_of_nat_abs, pos_of                a number by its size
--     add_swap                              a sum of four
--     small_fits, scaled_fits               a small number fits its bits, and so does a small multiple with another added
--     back_of, widened                      and is read back from them
use Prim.Native.Nat.{ℕ, zero, suc, ◌+◌, ◌-◌, ◌*◌, ◌^◌, ◌≤◌, ◌<◌}
use mathlib.Core.Path.{◌≡◌, refl, sym, ap, ◌∙◌}
use native.Mathlib.Decide.{dec_le}
use native.Mathlib.Nat.{zero-add, add_comm, sub-zero, le_refl, lt_of_le_of_lt, not-suc-le-zero}
use native.Mathlib.Omega.{arith}
use lib.Dec.{ltb→lt}
use lib.IntN.{ℤ, pos, negsuc, neg_ℤ, nat_abs, sub_ℕ, ◌+ℤ◌, ◌*ℤ◌, +ℤ_assoc, +ℤ_comm}
use lib.Signed.{mag, ◌<ℤ◌}
use borrow.Author.Tests.{lt-ltb, le-ltb}
use mir.Syntax.{Width, w32, w64}
use mir.Val.{SFits, to_z, of_z, hbits}
use mir.Facts.{sfits_widen}
use mir.ValLaws.{to_z-of_z}

pub subℕ_pos : (a b : ℕ) → b ≤ a → sub_ℕ a b ≡ pos (a - b)
subℕ_pos a b l = rw (le-ltb a b l)

pub subℕ_neg : (a b : ℕ) → a < b → sub_ℕ a b ≡ negsuc (b - suc a)
subℕ_neg a b l = rw (lt-ltb a b l)

pub neg_add : (k d : ℕ) → neg_ℤ (pos k) +ℤ pos d ≡ sub_ℕ d k
neg_add zero d = ap pos (zero-add d ∙ sym (sub-zero d)) ∙ sym (subℕ_pos d 0 (omega arith))
neg_add (suc k) d = refl

pub nat_abs_neg : (z : ℤ) → nat_abs (neg_ℤ z) ≡ nat_abs z
nat_abs_neg (pos zero) = refl
nat_abs_neg (pos (suc n)) = refl
nat_abs_neg (negsuc n) = refl

nat_abs_subℕ : (a b : ℕ) → nat_abs (sub_ℕ a b) ≤ a + b
nat_abs_subℕ a b = by (dec_le b a)
  where
    by : Dec (b ≤ a) → nat_abs (sub_ℕ a b) ≤ a + b
    by (yes l) = rw (subℕ_pos a b l) (omega arith)
    by (no l) = rw (subℕ_neg a b (omega (arith, l))) (omega (arith, l))

pub nat_abs_add : (a b : ℤ) → nat_abs (a +ℤ b) ≤ nat_abs a + nat_abs b
nat_abs_add (pos a) (pos b) = le_refl _
nat_abs_add (pos a) (negsuc b) = nat_abs_subℕ a (suc b)
nat_abs_add (negsuc a) (pos b) = rw (add_comm (suc a) b) (nat_abs_subℕ b (suc a))
nat_abs_add (negsuc a) (negsuc b) = omega arith

pub nat_abs_mul : (a b : ℤ) → nat_abs (a *ℤ b) ≡ nat_abs a * nat_abs b
nat_abs_mul (pos a) (pos b) = refl
nat_abs_mul (pos a) (negsuc b) = nat_abs_neg (pos (a * suc b))
nat_abs_mul (negsuc a) (pos b) = nat_abs_neg (pos (suc a * b))
nat_abs_mul (negsuc a) (negsuc b) = refl

pub zero_of_nat_abs : (z : ℤ) → nat_abs z ≤ 0 → z ≡ pos 0
zero_of_nat_abs (pos zero) l = refl
zero_of_nat_abs (pos (suc n)) l = absurd (not-suc-le-zero l)
zero_of_nat_abs (negsuc n) l = absurd (not-suc-le-zero l)

-- a positive number is its size
pub pos_of : (d : ℤ) → pos 0 <ℤ d → (d ≡ pos (nat_abs d)) × (0 < nat_abs d)
pos_of (pos d) l = (refl, ltb→lt 0 d l.lt)
pos_of (negsuc d) l = absurd l.lt

pub add_swap : (a b c d : ℤ) → (a +ℤ b) +ℤ (c +ℤ d) ≡ (a +ℤ c) +ℤ (b +ℤ d)
add_swap a b c d =
    +ℤ_assoc a b (c +ℤ d)
    ∙ ap (λ z. a +ℤ z) (sym (+ℤ_assoc b c d) ∙ ap (λ z. z +ℤ d) (+ℤ_comm b c) ∙ +ℤ_assoc c b d)
    ∙ sym (+ℤ_assoc a c (b +ℤ d))

mag_at_most : (z : ℤ) → mag z ≤ nat_abs z
mag_at_most (pos n) = le_refl n
mag_at_most (negsuc n) = omega arith

pub small_fits : (w : Width) (z : ℤ) → nat_abs z < 2 ^ hbits w → SFits w z
small_fits w z l = record { sfits = lt_of_le_of_lt (mag_at_most z) l }

-- a multiple of a number, and that with another added
pub scaled_fits : (w : Width) (k : ℕ) (x a : ℤ) → k * nat_abs x + nat_abs a < 2 ^ hbits w → SFits w (pos k *ℤ x) × SFits w (pos k *ℤ x +ℤ a)
scaled_fits w k x a l =
    (small_fits w _ (omega (arith, nat_abs_mul (pos k) x)), small_fits w _ (omega (arith, nat_abs_mul (pos k) x, nat_abs_add (pos k *ℤ x) a)))

-- `back_of w _ c.call.ok`
pub back_of : (w : Width) (z : ℤ) → mag z < 2 ^ hbits w → to_z w (of_z w z) ≡ z
back_of w z l = to_z-of_z w z (record { sfits = l })

-- an i32 as an i64
pub widened : {z : ℤ} → SFits w32 z → to_z w64 (of_z w64 (to_z w32 (of_z w32 z))) ≡ z
widened {z} f = ap (λ x. to_z w64 (of_z w64 x)) (to_z-of_z w32 z f) ∙ to_z-of_z w64 z (sfits_widen tt f)
