-- `added_vertex` rounds V.3's numerator at six corners in its lowest terms, as `V3_six` has it, which the coordinates keep small.
use Prim.Native.Nat.{◌*◌, ◌≤◌}
use mathlib.Core.Path.{refl, sym, ◌∙◌}
use native.Mathlib.Omega.{arith}
use lib.IntN.{pos, nat_abs, ◌+ℤ◌, ◌*ℤ◌}
use lib.Signed.{lt_z_yes}
use mir.Syntax.{w32, w64}
use mir.Val.{SFits}
use mir.Facts.{to_z-of_z, sfits_widen}
use Rattle.laws.proofs.Integers.{nat_abs_add, nat_abs_mul, small_fits, back_of}
use Rattle.points.specs.Operations.{most_coordinate}
use Rattle.points.proofs.Numerators.{V3_six}
use Rattle.points.proofs.rules.added_vertex.Goals as goal
use Rattle.points.proofs.rules.added_vertex.Goals.{Start}

module _ (s : Start) where
  ten_fits : SFits w32 (pos 10 *ℤ s.args.vertex)
  ten_fits = small_fits w32 _ (omega (arith, nat_abs_mul (pos 10) s.args.vertex))

  small : nat_abs (pos 10 *ℤ s.args.vertex +ℤ s.args.sum) ≤ most_coordinate * 16
  small = omega (arith, nat_abs_mul (pos 10) s.args.vertex, nat_abs_add (pos 10 *ℤ s.args.vertex) s.args.sum)

  fits : SFits w32 (pos 10 *ℤ s.args.vertex +ℤ s.args.sum)
  fits = small_fits w32 _ (omega (arith, small))

  wide : SFits w64 (pos 10 *ℤ s.args.vertex +ℤ s.args.sum)
  wide = sfits_widen tt fits

pub overflow_mul-numerator : goal.overflow_mul-numerator
overflow_mul-numerator s = simp (to_z-of_z s.ranges.vertex) (ten_fits s)

pub overflow_add-numerator : goal.overflow_add-numerator
overflow_add-numerator s = simp (to_z-of_z s.ranges.vertex, to_z-of_z s.ranges.sum, to_z-of_z (ten_fits s)) (fits s)

pub overflow_cast-numerator : goal.overflow_cast-numerator
overflow_cast-numerator s = simp (to_z-of_z s.ranges.vertex, to_z-of_z s.ranges.sum, to_z-of_z (ten_fits s), to_z-of_z (fits s)) (wide s)

pub rounded-requires : goal.rounded-requires
rounded-requires s = simp (to_z-of_z s.ranges.vertex, to_z-of_z s.ranges.sum, to_z-of_z (ten_fits s), to_z-of_z (fits s), to_z-of_z (wide s)) (lt_z_yes tt, omega arith, omega (arith, small s), refl)

pub returns : goal.returns
returns c =
    let e = simp (to_z-of_z c.ranges.vertex, to_z-of_z c.ranges.sum, to_z-of_z (ten_fits (goal.at.returns c).Start), to_z-of_z (fits (goal.at.returns c).Start), to_z-of_z (wide (goal.at.returns c).Start)) at c.rounded.ensures in
    λ w. simp (back_of w32 c.rounded.result c.rounded.type_inv) (e ∙ sym (V3_six w c.args.vertex c.args.sum))
