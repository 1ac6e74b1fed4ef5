-- `floor_division` divides a number that is not negative, since some wholes were added; without them it is the floor.
use Prim.Native.Nat.{ℕ, ◌*◌, ◌/◌, ◌<◌}
use mathlib.Core.Path.{◌≡◌, ap}
use native.Mathlib.Nat.{div-le_self, lt_of_le_of_lt}
use native.Mathlib.Omega.{arith}
use lib.IntN.{ℤ, pos, nat_abs, ◌+ℤ◌, ◌-ℤ◌, ◌*ℤ◌}
use mir.Syntax.{w64}
use mir.Val.{SFits}
use mir.Facts.{to_z-of_z}
use Rattle.laws.proofs.Integers.{pos_of, small_fits}
use Rattle.rounding.specs.Internal.Floor.{floor}
use Rattle.rounding.proofs.Floor.{raised, raised_is, raised_small, raised_floor, floor_fits}
use Rattle.rounding.proofs.floor_division.Goals as goal

abbrev wholes : ℕ
wholes = 4294967296

module _ (s : goal.Start) where
  abbrev n : ℤ
  n = s.args.numerator

  abbrev d : ℕ
  d = nat_abs s.args.denominator

  denominator_is : s.args.denominator ≡ pos d
  denominator_is = (pos_of _ s.requires.0).0

  some : 0 < d
  some = (pos_of _ s.requires.0).1

  added : pos wholes *ℤ s.args.denominator ≡ pos (wholes * d)
  added = ap (λ z. pos wholes *ℤ z) denominator_is

  added_fits : SFits w64 (pos (wholes * d))
  added_fits = small_fits w64 _ (omega (arith, s.requires.1))

  sum : n +ℤ pos (wholes * d) ≡ pos (raised n (wholes * d))
  sum = raised_is n (wholes * d) (omega (arith, s.requires.2))

  sum_fits : SFits w64 (pos (raised n (wholes * d)))
  sum_fits = small_fits w64 _ (omega (arith, s.requires.1, raised_small n (wholes * d) (omega (arith, s.requires.2))))

  quotient_fits : SFits w64 (pos (raised n (wholes * d) / d))
  quotient_fits = record { sfits = lt_of_le_of_lt (div-le_self (raised n (wholes * d)) d) sum_fits.sfits }

  result : pos (raised n (wholes * d) / d) -ℤ pos wholes ≡ floor n d
  result = raised_floor wholes d some n (omega (arith, s.requires.2))

  result_fits : SFits w64 (floor n d)
  result_fits = floor_fits w64 n d s.ranges.numerator

pub overflow_mul-raised : goal.overflow_mul-raised
overflow_mul-raised s = rw (to_z-of_z s.ranges.denominator, added s) (added_fits s)

pub overflow_add-raised : goal.overflow_add-raised
overflow_add-raised s = rw (to_z-of_z s.ranges.numerator, to_z-of_z s.ranges.denominator, added s, to_z-of_z (added_fits s), sum s) (sum_fits s)

pub overflow_cast-quotient : goal.overflow_cast-quotient
overflow_cast-quotient s = rw (to_z-of_z s.ranges.numerator, to_z-of_z s.ranges.denominator, added s, to_z-of_z (added_fits s), sum s, to_z-of_z (sum_fits s)) (tt, omega (arith, s.requires.1, raised_small (n s) (wholes * d s) (omega (arith, s.requires.2))))

pub overflow_cast-quotient-2 : goal.overflow_cast-quotient-2
overflow_cast-quotient-2 s = rw (to_z-of_z s.ranges.denominator, denominator_is s) (tt, omega (arith, s.requires.1))

pub nonzero_div-quotient : goal.nonzero_div-quotient
nonzero_div-quotient s = rw (to_z-of_z s.ranges.denominator) (some s)

pub overflow_cast-result : goal.overflow_cast-result
overflow_cast-result s = rw (to_z-of_z s.ranges.numerator, to_z-of_z s.ranges.denominator, added s, to_z-of_z (added_fits s), sum s, to_z-of_z (sum_fits s)) (quotient_fits s)

pub overflow_sub-result : goal.overflow_sub-result
overflow_sub-result s = rw (to_z-of_z s.ranges.numerator, to_z-of_z s.ranges.denominator, added s, to_z-of_z (added_fits s), sum s, to_z-of_z (sum_fits s), to_z-of_z (quotient_fits s), result s) (result_fits s)

pub returns : goal.returns
returns s = rw (to_z-of_z s.ranges.numerator, to_z-of_z s.ranges.denominator, added s, to_z-of_z (added_fits s), sum s, to_z-of_z (sum_fits s), to_z-of_z (quotient_fits s), result s) (to_z-of_z (result_fits s))
