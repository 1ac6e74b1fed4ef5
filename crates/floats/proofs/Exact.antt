-- The float of a coordinate is exact: its value is units/1024 (`float_exact`), its bits are the definition's (`float_bits_lem`), it is a number
-- (`float_number`), and it is what the code's division gives (`castable`, `float_divided`). Assumes nothing.
use Prim.Native.Nat.{ℕ, suc, ◌+◌, ◌*◌, ◌/◌, ◌^◌, ◌≤◌}
use mathlib.Core.Path.{◌≡◌, refl, sym, ap, ◌∙◌}
use mathlib.Core.Bool.{Bool, true, false, not, cond}
use native.Mathlib.Nat.{mul-pos, mul-one, mul_assoc, mul_comm, mul_right_comm, mul-div_cancel, mul-le-mul_right, le_of_lt, lt_of_le_of_lt, lt_of_lt_of_le, add_assoc, zero-add}
use lib.Dec.{T, lit<, lit≤, le→leb, lt→ltb}
use lib.IntN.{ℤ, pos, negsuc, nat_abs}
use lib.Ieee.{Float, nan, inf, fin, binary32, div, of_int, in_float, of_bits, round, up, down, is_nan, to_bits, unlike}
use lib.Ieee.Exact.{HasValue, round_exact}
use lib.Ieee.Back.{round_whole}
use lib.Ieee.Bits.{of_bits-to_bits}
use lib.Ieee.Fits.{down_pos, round-fits}
use lib.Ieee.Scale.{round_same}
use Rattle.points.specs.Operations.{most_coordinate}
use Rattle.floats.specs.Floats.{size_bits, float_bits, float_of, negative, Exact}
use Rattle.floats.proofs.Exponent.{in_smallest, size_bits_lem}

-- the float nearest to units/1024
nearest : ℤ → Float
nearest z = round binary32 (negative z) (nat_abs z) 1024

-- ---- it is units/1024

round_1024 : (s : Bool) (n : ℕ) → n ≤ 1048576 → HasValue (round binary32 s n 1024) s n 1024
round_1024 s n few =
    round_exact binary32 s n 1024 n 139 (lit< tt) (lt_of_le_of_lt few (lit< tt))
    (lt_of_le_of_lt (mul-le-mul_right (2 ^ 139) few) (lit< tt))
    (sym (mul_assoc n (2 ^ 139) 1024))

-- ---- its bits

value_bits : (x : Float) (s : Bool) (n : ℕ) → n ≤ 1048576 → HasValue x s n 1024 → to_bits binary32 x ≡ cond s (2 ^ 31) 0 + size_bits n
unfolding to_bits
value_bits nan s n few v = absurd v
value_bits (inf t) s n few v = absurd v
value_bits (fin t m e) s n few v = rw (v.0, units) (add_assoc _ _ _ ∙ ap (λ b. cond s (2 ^ 31) 0 + b) (size_bits_lem n few))
  where
    scaled : m * up e * 2 ^ 149 ≡ in_smallest n * down e
    scaled = sym (mul_assoc (m * up e) 1024 (2 ^ 139)) ∙ ap (λ k. k * 2 ^ 139) v.1 ∙ mul_right_comm n (down e) (2 ^ 139)

    units : m * up e * 2 ^ 149 / down e ≡ in_smallest n
    units = ap (λ k. k / down e) scaled ∙ mul-div_cancel (in_smallest n) (down_pos e)

nearest_bits : (z : ℤ) → nat_abs z ≤ 1048576 → to_bits binary32 (nearest z) ≡ float_bits z
unfolding float_bits nearest
nearest_bits (pos n) few = value_bits _ false n few (round_1024 false n few) ∙ zero-add (size_bits n)
nearest_bits (negsuc n) few = value_bits _ true (suc n) few (round_1024 true (suc n) few)

nearest_of : (z : ℤ) → nat_abs z ≤ 1048576 → nearest z ≡ float_of z
unfolding float_of nearest
nearest_of z few = sym (of_bits-to_bits binary32 (nearest z) (round-fits binary32 (negative z) (nat_abs z) 1024)) ∙ ap (of_bits binary32) (nearest_bits z few)

-- ---- what division gives

same_sign : (t : Bool) → unlike t false ≡ t
same_sign true = refl
same_sign false = refl

divided : (x : Float) (s : Bool) (n : ℕ) → HasValue x s n 1 → div binary32 x (fin false 1 (pos 10)) ≡ round binary32 s n 1024
unfolding div
divided nan s n v = absurd v
divided (inf t) s n v = absurd v
divided (fin t m e) s n v =
    let a : m * up e ≡ n * down e = sym (mul-one (m * up e)) ∙ v.1 in
    ap (λ b. round binary32 b (m * up e * 1) (1024 * down e)) (same_sign t ∙ v.0)
    ∙ round_same binary32 s (m * up e * 1) (1024 * down e) n 1024 (mul-pos (lit< tt) (down_pos e)) (lit< tt)
    (ap (λ k. k * 1024) (mul-one (m * up e) ∙ a) ∙ mul_assoc n (down e) 1024 ∙ ap (λ k. n * k) (mul_comm (down e) 1024))

thousand : of_bits binary32 1149239296 ≡ fin false 1 (pos 10)
unfolding of_bits
thousand = refl

nearest_divided : (z : ℤ) → nat_abs z ≤ 1048576 → div binary32 (of_int binary32 z) (fin false 1 (pos 10)) ≡ nearest z
unfolding nearest of_int
nearest_divided (pos n) few = divided _ false n (round_whole binary32 false n (le_of_lt (lt_of_le_of_lt few (lit< tt))))
nearest_divided (negsuc n) few = divided _ true (suc n) (round_whole binary32 true (suc n) (le_of_lt (lt_of_le_of_lt few (lit< tt))))

number : (x : Float) (s : Bool) (n c : ℕ) → HasValue x s n c → T (not (is_nan x))
unfolding is_nan
number nan s n c v = absurd v
number (inf t) s n c v = absurd v
number (fin t m e) s n c v = tt

-- the code's cast loses nothing
pub castable : (z : ℤ) → nat_abs z ≤ 1048576 → T (in_float binary32 z)
unfolding in_float
castable (pos n) few = le→leb n (2 ^ 24) (le_of_lt (lt_of_le_of_lt few (lit< tt)))
castable (negsuc n) few = lt→ltb n (2 ^ 24) (lt_of_lt_of_le few (lit≤ tt))

module _ (z : ℤ) (few : nat_abs z ≤ most_coordinate) where
  pub float_exact : Exact z
  unfolding nearest
  float_exact = rw (← nearest_of z few) (round_1024 (negative z) (nat_abs z) few)

  pub float_bits_lem : to_bits binary32 (float_of z) ≡ float_bits z
  float_bits_lem = ap (to_bits binary32) (sym (nearest_of z few)) ∙ nearest_bits z few

  pub float_number : T (not (is_nan (float_of z)))
  unfolding float_of
  float_number = number _ _ _ _ float_exact

  pub float_divided : div binary32 (of_int binary32 z) (of_bits binary32 1149239296) ≡ float_of z
  float_divided = rw thousand (nearest_divided z few ∙ nearest_of z few)
