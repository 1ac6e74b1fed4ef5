-- `rounded` is a floor, by `round_by_floor`, and `round_at_most` says that the result can be narrowed.
use Prim.Native.Nat.{ℕ, ◌+◌, ◌*◌, ◌/◌, ◌^◌, ◌≤◌, ◌<◌}
use mathlib.Core.Path.{◌≡◌, ap, ◌∙◌}
use native.Mathlib.Nat.{div-eq_of_lt}
use native.Mathlib.Omega.{arith}
use lib.IntN.{ℤ, pos, negsuc, nat_abs, ◌+ℤ◌}
use lib.Signed.{quot_z}
use mir.Syntax.{w32, w64}
use mir.Val.{SFits, to_z, of_z}
use mir.Facts.{to_z-of_z}
use Rattle.laws.proofs.Integers.{nat_abs_add, pos_of, small_fits, back_of}
use Rattle.rounding.specs.Rounding.{round}
use Rattle.rounding.specs.Internal.Floor.{floor}
use Rattle.rounding.proofs.Nearest.{round_at_most, sign_of, lowered, round_by_floor}
use Rattle.rounding.proofs.rounded.Goals as goal

-- a number that fits 64 bits, without its 63 lowest ones
sign_is : (z : ℤ) → SFits w64 z → floor z (2 ^ 63) ≡ sign_of z
sign_is (pos n) f = ap pos (div-eq_of_lt {n = n} {m = 2 ^ 63} f.sfits)
sign_is (negsuc n) f = ap negsuc (div-eq_of_lt {n = n} {m = 2 ^ 63} f.sfits)

sign_small : (z : ℤ) → nat_abs (sign_of z) ≤ 1
sign_small (pos n) = omega arith
sign_small (negsuc n) = omega arith

module _ (s : goal.Start) where
  abbrev n : ℤ
  n = s.args.numerator

  abbrev d : ℕ
  d = nat_abs s.args.denominator

  abbrev h : ℕ
  h = d / 2

  denominator_is : s.args.denominator ≡ pos d
  denominator_is = (pos_of _ s.requires.0).0

  some : 0 < d
  some = (pos_of _ s.requires.0).1

  even : d ≡ 2 * h
  even = omega (arith, s.requires.3)

  half_is : quot_z s.args.denominator (pos 2) ≡ pos h
  half_is = ap (λ z. quot_z z (pos 2)) denominator_is

  half_fits : SFits w64 (pos h)
  half_fits = small_fits w64 _ (omega (arith, s.requires.1))

  sign_fits : SFits w64 (sign_of n)
  sign_fits = small_fits w64 _ (omega (arith, sign_small n))

  sign : to_z w64 (of_z w64 (floor n (2 ^ 63))) ≡ sign_of n
  sign = rw (sign_is n s.ranges.numerator) (to_z-of_z sign_fits)

  signed_small : nat_abs (n +ℤ sign_of n) ≤ nat_abs n + 1
  signed_small = omega (arith, nat_abs_add n (sign_of n), sign_small n)

  signed_fits : SFits w64 (n +ℤ sign_of n)
  signed_fits = small_fits w64 _ (omega (arith, signed_small, s.requires.1, s.requires.2))

  top_small : nat_abs (lowered n h) ≤ nat_abs n + 1 + h
  top_small = omega (arith, signed_small, nat_abs_add (n +ℤ sign_of n) (pos h))

  top_fits : SFits w64 (lowered n h)
  top_fits = small_fits w64 _ (omega (arith, top_small, s.requires.1, s.requires.2))

  is_floor : floor (lowered n h) d ≡ round n d
  is_floor = ap (λ k. floor (lowered n h) k) even ∙ round_by_floor h (omega (arith, some, even)) n ∙ ap (λ k. round n k) (omega (arith, even))

  narrow : SFits w32 (round n d)
  narrow = small_fits w32 _ (omega (arith, round_at_most 2147483647 d some n s.requires.2))

pub overflow_add-top : goal.overflow_add-top
overflow_add-top s = rw (to_z-of_z s.ranges.numerator, sign s) (signed_fits s)

pub nonzero_div-top : goal.nonzero_div-top
nonzero_div-top s = rw (to_z-of_z s.ranges.denominator, half_is s) (omega arith, half_fits s)

pub overflow_add-top-2 : goal.overflow_add-top-2
overflow_add-top-2 s =
    rw (to_z-of_z s.ranges.numerator, to_z-of_z s.ranges.denominator, sign s, half_is s, to_z-of_z (half_fits s), to_z-of_z (signed_fits s)) (top_fits s)

pub floor_division-whole-requires : goal.floor_division-whole-requires
floor_division-whole-requires s =
    rw (to_z-of_z s.ranges.numerator, to_z-of_z s.ranges.denominator, sign s, half_is s, to_z-of_z (half_fits s), to_z-of_z (signed_fits s), to_z-of_z (top_fits s))
    (s.requires.0, s.requires.1, omega (arith, s.requires.2, top_small s, some s))

result : (c : goal.After-floor_division-whole) → c.floor_division-whole.result ≡ round c.args.numerator (nat_abs c.args.denominator)
result c =
    let s = c.before in
    (rw (to_z-of_z s.ranges.numerator, to_z-of_z s.ranges.denominator, sign s, half_is s, to_z-of_z (half_fits s), to_z-of_z (signed_fits s), to_z-of_z (top_fits s)) at c.floor_division-whole.ensures)
    ∙ is_floor s

pub overflow_cast-result : goal.overflow_cast-result
overflow_cast-result c = rw (back_of w64 _ c.floor_division-whole.type_inv, result c) (narrow c.before)

pub returns : goal.returns
returns c = rw (back_of w64 _ c.floor_division-whole.type_inv, result c, to_z-of_z (narrow c.before))
