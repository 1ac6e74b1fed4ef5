-- `finished_edge` rounds E.2's numerator, which the sum and the coordinate keep small.
use Prim.Native.Nat.{◌*◌, ◌≤◌}
use mathlib.Core.Path.{refl}
use native.Mathlib.Omega.{arith}
use lib.IntN.{ℤ, nat_abs, ◌+ℤ◌}
use lib.Signed.{lt_z_yes}
use mir.Syntax.{w32, w64}
use mir.Val.{SFits}
use mir.Facts.{to_z-of_z, sfits_widen}
use Rattle.laws.proofs.Integers.{nat_abs_add, small_fits, back_of}
use Rattle.points.specs.Operations.{most_coordinate}
use Rattle.points.proofs.rules.finished_edge.Goals as goal
use Rattle.points.proofs.rules.finished_edge.Goals.{Start}

module _ (s : Start) where
  abbrev numerator : ℤ
  numerator = s.args.sum +ℤ s.args.d

  small : nat_abs numerator ≤ most_coordinate * 8
  small = omega (arith, nat_abs_add s.args.sum s.args.d)

  fits : SFits w32 numerator
  fits = small_fits w32 _ (omega (arith, small))

  wide : SFits w64 numerator
  wide = sfits_widen tt fits

pub overflow_add-numerator : goal.overflow_add-numerator
overflow_add-numerator s = simp (to_z-of_z s.ranges.sum, to_z-of_z s.ranges.d) (fits s)

pub overflow_cast-numerator : goal.overflow_cast-numerator
overflow_cast-numerator s = simp (to_z-of_z s.ranges.sum, to_z-of_z s.ranges.d, to_z-of_z (fits s)) (wide s)

pub rounded-requires : goal.rounded-requires
rounded-requires s = simp (to_z-of_z s.ranges.sum, to_z-of_z s.ranges.d, to_z-of_z (fits s), to_z-of_z (wide s)) (lt_z_yes tt, omega arith, omega (arith, small s), refl)

pub returns : goal.returns
returns c =
    let e = simp (to_z-of_z c.ranges.sum, to_z-of_z c.ranges.d, to_z-of_z (fits (goal.at.returns c).Start), to_z-of_z (wide (goal.at.returns c).Start)) at c.rounded.ensures in
    simp (back_of w32 c.rounded.result c.rounded.type_inv) e
