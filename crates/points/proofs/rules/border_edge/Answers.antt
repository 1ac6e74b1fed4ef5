-- `border_edge` rounds E.1's numerator, which two coordinates keep small.
use Prim.Native.Nat.{◌*◌, ◌≤◌}
use mathlib.Core.Path.{refl}
use native.Mathlib.Omega.{arith}
use lib.IntN.{nat_abs, ◌+ℤ◌}
use lib.Signed.{lt_z_yes}
use mir.Syntax.{w32, w64}
use mir.Val.{SFits}
use mir.Facts.{to_z-of_z, sfits_widen}
use Rattle.laws.proofs.Integers.{small_fits, back_of, widened}
use Rattle.points.specs.PointRules.{E1}
use Rattle.points.specs.Operations.{most_coordinate}
use Rattle.points.proofs.Numerators.{E1_numerator}
use Rattle.points.proofs.rules.border_edge.Goals as goal
use Rattle.points.proofs.rules.border_edge.Goals.{Start}

module _ (s : Start) where
  small : nat_abs (s.args.a +ℤ s.args.b) ≤ most_coordinate * 2
  small = E1_numerator most_coordinate s.args.a s.args.b s.requires.0 s.requires.1

  fits : SFits w64 (s.args.a +ℤ s.args.b)
  fits = small_fits w64 _ (omega (arith, small))

pub overflow_cast-numerator : goal.overflow_cast-numerator
overflow_cast-numerator s = simp (to_z-of_z s.ranges.a) (sfits_widen tt s.ranges.a)

pub overflow_cast-numerator-2 : goal.overflow_cast-numerator-2
overflow_cast-numerator-2 s = simp (to_z-of_z s.ranges.b) (sfits_widen tt s.ranges.b)

pub overflow_add-numerator : goal.overflow_add-numerator
overflow_add-numerator s = simp (widened s.ranges.a, widened s.ranges.b) (fits s)

pub rounded-requires : goal.rounded-requires
rounded-requires s = simp (widened s.ranges.a, widened s.ranges.b, to_z-of_z (fits s)) (lt_z_yes tt, omega arith, omega (arith, small s), refl)

pub returns : goal.returns
unfolding E1
returns c =
    let e = simp (widened c.ranges.a, widened c.ranges.b, to_z-of_z (fits (goal.at.returns c).Start)) at c.rounded.ensures in
    simp (back_of w32 c.rounded.result c.rounded.type_inv) e
