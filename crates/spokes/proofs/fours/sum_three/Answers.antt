-- `sum_three` adds three coordinates in range, whose sum is far from wrapping.
use native.Mathlib.Omega.{arith}
use lib.IntN.{◌+ℤ◌}
use mir.Syntax.{w32}
use mir.Val.{SFits}
use mir.Facts.{to_z-of_z}
use Rattle.laws.proofs.Integers.{nat_abs_add, small_fits}
use Rattle.spokes.proofs.fours.sum_three.Goals as goal
use Rattle.spokes.proofs.fours.sum_three.Goals.{Start}

module _ (s : Start) where
  two : SFits w32 (s.args.x +ℤ s.args.y)
  two = small_fits w32 _ (omega (arith, nat_abs_add s.args.x s.args.y))

  three : SFits w32 (s.args.x +ℤ s.args.y +ℤ s.args.z)
  three = small_fits w32 _ (omega (arith, nat_abs_add s.args.x s.args.y, nat_abs_add (s.args.x +ℤ s.args.y) s.args.z))

pub overflow_add-result : goal.overflow_add-result
overflow_add-result s = simp (to_z-of_z s.ranges.x, to_z-of_z s.ranges.y) (two s)

pub overflow_add-result-2 : goal.overflow_add-result-2
overflow_add-result-2 s = simp (to_z-of_z s.ranges.x, to_z-of_z s.ranges.y, to_z-of_z s.ranges.z, to_z-of_z (two s)) (three s)

pub returns : goal.returns
returns s = simp (to_z-of_z s.ranges.x, to_z-of_z s.ranges.y, to_z-of_z s.ranges.z, to_z-of_z (two s), to_z-of_z (three s))
