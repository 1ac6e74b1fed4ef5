-- `border_vertex` goes by the same test as its definition; the coordinates keep both numbers small, and what is no place has the mark.
use Prim.Native.Nat.{◌+◌, ◌≤◌}
use mathlib.Core.Path.{◌≡◌, refl, ◌∙◌}
use mathlib.Core.Bool.{true, false}
use native.Mathlib.Omega.{arith}
use lib.IntN.{ℤ, pos, nat_abs, ◌+ℤ◌, ◌-ℤ◌, ◌*ℤ◌}
use lib.Signed.{le_z, lt_z_yes}
use mir.Syntax.{w32, w64}
use mir.Val.{SFits}
use mir.Facts.{to_z-of_z, sfits_widen}
use Rattle.laws.proofs.Integers.{nat_abs_add, nat_abs_mul, small_fits, scaled_fits, back_of}
use Rattle.points.specs.Operations.{most_coordinate}
use Rattle.points.specs.Internal.Parts.{mark, met}
use Rattle.points.proofs.Numerators.{unmarked_at_most}
use Rattle.points.proofs.rules.border_vertex.Goals as goal
use Rattle.points.proofs.rules.border_vertex.Goals.{Else-now-le-MOST_COORDINATE, Start}

module _ (s : Start) where
  abbrev x : ℤ
  x = s.args.vertex

  abbrev a : ℤ
  a = s.args.neighbour

  both_fit : SFits w32 (pos 6 *ℤ x) × SFits w32 (pos 6 *ℤ x +ℤ a)
  both_fit = scaled_fits w32 6 x a (omega arith)

  marked_fits : SFits w32 (pos 6 *ℤ x +ℤ a +ℤ pos mark)
  marked_fits = small_fits w32 _ (omega (arith, nat_abs_mul (pos 6) x, nat_abs_add (pos 6 *ℤ x) a, nat_abs_add (pos 6 *ℤ x +ℤ a) (pos mark)))

module _ (c : Else-now-le-MOST_COORDINATE) where
  abbrev sum : ℤ
  sum = c.args.now -ℤ pos mark

  second : le_z c.args.now (pos most_coordinate) ≡ false
  second = simp (to_z-of_z c.ranges.now) at c.if-now-le-MOST_COORDINATE.false

  sum_small : nat_abs sum ≤ mark
  sum_small = unmarked_at_most c.args.now c.ranges.now.sfits second

  unmarked_fits : SFits w32 sum
  unmarked_fits = small_fits w32 _ (omega (arith, sum_small))

  small : nat_abs (sum +ℤ a (goal.at.Else-now-le-MOST_COORDINATE c).Start) ≤ mark + most_coordinate
  small = omega (arith, sum_small, nat_abs_add sum (a (goal.at.Else-now-le-MOST_COORDINATE c).Start))

  fits : SFits w32 (sum +ℤ a (goal.at.Else-now-le-MOST_COORDINATE c).Start)
  fits = small_fits w32 _ (omega (arith, small))

  wide : SFits w64 (sum +ℤ a (goal.at.Else-now-le-MOST_COORDINATE c).Start)
  wide = sfits_widen tt fits

pub overflow_mul-result : goal.overflow_mul-result
overflow_mul-result c = simp (to_z-of_z c.ranges.vertex) (both_fit (goal.at.overflow_mul-result c).Start).0

pub overflow_add-result : goal.overflow_add-result
overflow_add-result c = simp (to_z-of_z c.ranges.vertex, to_z-of_z c.ranges.neighbour, to_z-of_z (both_fit (goal.at.overflow_add-result c).Start).0) (both_fit (goal.at.overflow_add-result c).Start).1

pub overflow_add-result-then-now-le-MOST_COORDINATE : goal.overflow_add-result-then-now-le-MOST_COORDINATE
overflow_add-result-then-now-le-MOST_COORDINATE c = simp (to_z-of_z c.ranges.vertex, to_z-of_z c.ranges.neighbour, to_z-of_z (both_fit (goal.at.overflow_add-result-then-now-le-MOST_COORDINATE c).Start).0, to_z-of_z (both_fit (goal.at.overflow_add-result-then-now-le-MOST_COORDINATE c).Start).1) (marked_fits (goal.at.overflow_add-result-then-now-le-MOST_COORDINATE c).Start)

pub returns-then-now-le-MOST_COORDINATE : goal.returns-then-now-le-MOST_COORDINATE
unfolding met
returns-then-now-le-MOST_COORDINATE c =
    let first : le_z c.args.now (pos most_coordinate) ≡ true = simp (to_z-of_z c.ranges.now) at c.if-now-le-MOST_COORDINATE.true in
    rw first
    (simp (to_z-of_z c.ranges.vertex, to_z-of_z c.ranges.neighbour, to_z-of_z (both_fit (goal.at.returns-then-now-le-MOST_COORDINATE c).Start).0, to_z-of_z (both_fit (goal.at.returns-then-now-le-MOST_COORDINATE c).Start).1, to_z-of_z (marked_fits (goal.at.returns-then-now-le-MOST_COORDINATE c).Start)))

pub overflow_sub-numerator : goal.overflow_sub-numerator
overflow_sub-numerator c = simp (to_z-of_z c.ranges.now) (unmarked_fits c)

pub overflow_add-numerator : goal.overflow_add-numerator
overflow_add-numerator c = simp (to_z-of_z c.ranges.now, to_z-of_z c.ranges.neighbour, to_z-of_z (unmarked_fits c)) (fits c)

pub overflow_cast-numerator : goal.overflow_cast-numerator
overflow_cast-numerator c = simp (to_z-of_z c.ranges.now, to_z-of_z c.ranges.neighbour, to_z-of_z (unmarked_fits c), to_z-of_z (fits c)) (wide c)

pub rounded-requires : goal.rounded-requires
rounded-requires c =
    simp (to_z-of_z c.ranges.now, to_z-of_z c.ranges.neighbour, to_z-of_z (unmarked_fits c), to_z-of_z (fits c), to_z-of_z (wide c))
    (lt_z_yes tt, omega arith, omega (arith, small c), refl)

pub returns : goal.returns
unfolding met
returns c =
    let e = simp (to_z-of_z c.ranges.now, to_z-of_z c.ranges.neighbour, to_z-of_z (unmarked_fits (goal.at.returns c).Else-now-le-MOST_COORDINATE), to_z-of_z (fits (goal.at.returns c).Else-now-le-MOST_COORDINATE), to_z-of_z (wide (goal.at.returns c).Else-now-le-MOST_COORDINATE)) at c.rounded.ensures in
    rw (second (goal.at.returns c).Else-now-le-MOST_COORDINATE) (back_of w32 c.rounded.result c.rounded.type_inv ∙ e)
