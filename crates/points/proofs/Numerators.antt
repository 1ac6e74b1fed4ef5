-- How large the point rules' numerators are, of coordinates of at most m (`E1_numerator` and so on), and so that a rule's
-- result is at most m too (`E1_at_most` and so on); V.3 with six corners is (10v+s)/16 by either weight (`V3_six`). Assumes
-- nothing.
use Prim.Native.Nat.{ℕ, ◌+◌, ◌-◌, ◌*◌, ◌^◌, ◌≤◌, ◌<◌}
use mathlib.Core.Path.{◌≡◌, sym, ap, ◌∙◌, subst}
use mathlib.Core.Bool.{false}
use native.Mathlib.Decide.{dec_le}
use native.Mathlib.Nat.{mul_comm, mul_assoc, add-mul, mul-le-mul_left}
use native.Mathlib.Omega.{arith}
use lib.Dec.{T}
use lib.IntN.{ℤ, pos, negsuc, nat_abs, ◌+ℤ◌, ◌-ℤ◌, ◌*ℤ◌}
use lib.Signed.{mag, le_z}
use Rattle.laws.proofs.Integers.{nat_abs_add, nat_abs_mul, subℕ_pos, subℕ_neg}
use Rattle.rounding.specs.Rounding.{round}
use Rattle.rounding.proofs.Nearest.{round_at_most}
use Rattle.rounding.proofs.Scaled.{scaled_sum, scaled_twice, round_scaled}
use Rattle.points.specs.declared.weights.Weight.{Weight}
use Rattle.points.specs.declared.weights.Weight.TheVariants.{Short, Paper}
use Rattle.points.specs.Weights.{share}
use Rattle.points.specs.PointRules.{E1, E2, V2, rest, V3}
use Rattle.points.specs.Operations.{most_coordinate}
use Rattle.points.specs.Internal.Parts.{started, mark}
use Rattle.points.proofs.Shares.{shares_within, whole_some}

-- ten parts and one, of sixteen, in terms c times as large
six : (c : ℕ) → 0 < c → (v s : ℤ) → round (pos (c * 10) *ℤ v +ℤ pos c *ℤ s) (c * 16) ≡ round (pos 10 *ℤ v +ℤ s) 16
six c some v s =
    ap (λ z. round z (c * 16)) (ap (λ z. z +ℤ pos c *ℤ s) (sym (scaled_twice c 10 v)) ∙ sym (scaled_sum c (pos 10 *ℤ v) s))
    ∙ round_scaled c some (pos 10 *ℤ v +ℤ s) 16

pub V3_six : (w : Weight) (v s : ℤ) → V3 w 6 v s ≡ round (pos 10 *ℤ v +ℤ s) 16
unfolding V3
V3_six Short v s = six 3 (omega arith) v s
V3_six Paper v s = six 1048576 (omega arith) v s

-- what is no place has the mark, which leaves room for more
pub unmarked_at_most : (z : ℤ) → mag z < 2 ^ 31 → le_z z (pos most_coordinate) ≡ false → nat_abs (z -ℤ pos mark) ≤ mark
unmarked_at_most (negsuc n) l e = absurd (subst T e tt)
unmarked_at_most (pos n) l e = by (dec_le mark n)
  where
    by : Dec (mark ≤ n) → nat_abs (pos n -ℤ pos mark) ≤ mark
    by (yes m) = rw (subℕ_pos n mark m) (omega arith)
    by (no m) = rw (subℕ_neg n mark (omega (arith, m))) (omega (arith, m))

module _ (m : ℕ) where
  pub E1_numerator : (a b : ℤ) → nat_abs a ≤ m → nat_abs b ≤ m → nat_abs (a +ℤ b) ≤ m * 2
  E1_numerator a b la lb = omega (arith, nat_abs_add a b)

  pub started_at_most : (a b c : ℤ) → nat_abs a ≤ m → nat_abs b ≤ m → nat_abs c ≤ m → nat_abs (started a b c) ≤ m * 7
  started_at_most a b c la lb lc =
      omega (
        arith,
        nat_abs_mul (pos 3) a,
        nat_abs_mul (pos 3) b,
        nat_abs_add (pos 3 *ℤ a) (pos 3 *ℤ b),
        nat_abs_add (pos 3 *ℤ a +ℤ pos 3 *ℤ b) c,
      )

  pub E2_numerator : (a b c d : ℤ) → nat_abs a ≤ m → nat_abs b ≤ m → nat_abs c ≤ m → nat_abs d ≤ m → nat_abs (started a b c +ℤ d) ≤ m * 8
  E2_numerator a b c d la lb lc ld = omega (arith, started_at_most a b c la lb lc, nat_abs_add (started a b c) d)

  pub V2_numerator : (v s : ℤ) → nat_abs v ≤ m → nat_abs s ≤ m * 2 → nat_abs (pos 6 *ℤ v +ℤ s) ≤ m * 8
  V2_numerator v s lv ls = omega (arith, nat_abs_mul (pos 6) v, nat_abs_add (pos 6 *ℤ v) s)

  -- n spokes with a part p each, of a whole q
  spokes_at_most : (n p q x y : ℕ) → n * p ≤ q → x ≤ m → y ≤ m * n → (q - n * p) * x + p * y ≤ m * q
  spokes_at_most n p q x y within lx ly =
      let a : (q - n * p) * x ≤ (q - n * p) * m = mul-le-mul_left (q - n * p) lx in
      let b : p * y ≤ p * (m * n) = mul-le-mul_left p ly in
      let turned : p * (m * n) ≡ n * p * m = rw (mul_comm p (m * n), mul_assoc m n p, mul_comm m (n * p)) in
      let whole : q - n * p + n * p ≡ q = omega arith in
      let parted : (q - n * p) * m + n * p * m ≡ m * q = sym (add-mul (q - n * p) (n * p) m) ∙ ap (λ k. k * m) whole ∙ mul_comm q m in
      omega arith

  pub V3_parts : (w : Weight) (n : ℕ) (v s : ℤ) → nat_abs v ≤ m → nat_abs s ≤ m * n → rest (share w n) n * nat_abs v + (share w n).part * nat_abs s ≤ m * (share w n).whole
  V3_parts w n v s = spokes_at_most n (share w n).part (share w n).whole (nat_abs v) (nat_abs s) (shares_within w n)

  pub V3_numerator : (w : Weight) (n : ℕ) (v s : ℤ) → nat_abs v ≤ m → nat_abs s ≤ m * n → nat_abs (pos (rest (share w n) n) *ℤ v +ℤ pos (share w n).part *ℤ s) ≤ m * (share w n).whole
  V3_numerator w n v s lv ls =
      let r = rest (share w n) n in
      let p = (share w n).part in
      omega (arith, V3_parts w n v s lv ls, nat_abs_mul (pos r) v, nat_abs_mul (pos p) s, nat_abs_add (pos r *ℤ v) (pos p *ℤ s))

  pub E1_at_most : (a b : ℤ) → nat_abs a ≤ m → nat_abs b ≤ m → nat_abs (E1 a b) ≤ m
  unfolding E1
  E1_at_most a b la lb = round_at_most m 2 (omega arith) _ (E1_numerator a b la lb)

  pub E2_at_most : (a b c d : ℤ) → nat_abs a ≤ m → nat_abs b ≤ m → nat_abs c ≤ m → nat_abs d ≤ m → nat_abs (E2 a b c d) ≤ m
  unfolding E2
  E2_at_most a b c d la lb lc ld = round_at_most m 8 (omega arith) _ (E2_numerator a b c d la lb lc ld)

  pub V2_at_most : (v s : ℤ) → nat_abs v ≤ m → nat_abs s ≤ m * 2 → nat_abs (V2 v s) ≤ m
  unfolding V2
  V2_at_most v s lv ls = round_at_most m 8 (omega arith) _ (V2_numerator v s lv ls)

  pub V3_at_most : (w : Weight) (n : ℕ) (v s : ℤ) → 0 < n → nat_abs v ≤ m → nat_abs s ≤ m * n → nat_abs (V3 w n v s) ≤ m
  unfolding V3
  V3_at_most w n v s some lv ls = round_at_most m (share w n).whole (whole_some w n some) _ (V3_numerator w n v s lv ls)
