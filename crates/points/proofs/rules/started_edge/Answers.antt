-- `started_edge` works out its definition, which three coordinates keep small at every step of its sum.
use native.Mathlib.Omega.{arith}
use lib.IntN.{ℤ, pos, ◌+ℤ◌, ◌*ℤ◌}
use mir.Syntax.{w32}
use mir.Val.{SFits}
use mir.Facts.{to_z-of_z}
use Rattle.laws.proofs.Integers.{nat_abs_add, nat_abs_mul, small_fits}
use Rattle.points.specs.Operations.{most_coordinate}
use Rattle.points.specs.Internal.Parts.{started}
use Rattle.points.proofs.Numerators.{started_at_most}
use Rattle.points.proofs.rules.started_edge.Goals as goal
use Rattle.points.proofs.rules.started_edge.Goals.{Start}

module _ (s : Start) where
  abbrev a : ℤ
  a = s.args.a

  abbrev b : ℤ
  b = s.args.b

  three_a : SFits w32 (pos 3 *ℤ a)
  three_a = small_fits w32 _ (omega (arith, nat_abs_mul (pos 3) a))

  three_b : SFits w32 (pos 3 *ℤ b)
  three_b = small_fits w32 _ (omega (arith, nat_abs_mul (pos 3) b))

  ends : SFits w32 (pos 3 *ℤ a +ℤ pos 3 *ℤ b)
  ends = small_fits w32 _ (omega (arith, nat_abs_mul (pos 3) a, nat_abs_mul (pos 3) b, nat_abs_add (pos 3 *ℤ a) (pos 3 *ℤ b)))

  fits : SFits w32 (started a b s.args.c)
  fits = small_fits w32 _ (omega (arith, started_at_most most_coordinate a b s.args.c s.requires.0 s.requires.1 s.requires.2))

pub overflow_mul-result : goal.overflow_mul-result
overflow_mul-result s = simp (to_z-of_z s.ranges.a) (three_a s)

pub overflow_mul-result-2 : goal.overflow_mul-result-2
overflow_mul-result-2 s = simp (to_z-of_z s.ranges.b) (three_b s)

pub overflow_add-result : goal.overflow_add-result
overflow_add-result s = simp (to_z-of_z s.ranges.a, to_z-of_z s.ranges.b, to_z-of_z (three_a s), to_z-of_z (three_b s)) (ends s)

pub overflow_add-result-2 : goal.overflow_add-result-2
overflow_add-result-2 s =
    simp (to_z-of_z s.ranges.a, to_z-of_z s.ranges.b, to_z-of_z s.ranges.c, to_z-of_z (three_a s), to_z-of_z (three_b s), to_z-of_z (ends s))
    (fits s)

pub returns : goal.returns
returns s =
    simp (to_z-of_z s.ranges.a, to_z-of_z s.ranges.b, to_z-of_z s.ranges.c, to_z-of_z (three_a s), to_z-of_z (three_b s), to_z-of_z (ends s), to_z-of_z (fits s))
