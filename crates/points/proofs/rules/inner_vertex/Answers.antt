-- `inner_vertex` rounds V.3's numerator, which a share within its whole and the coordinates keep small.
use Prim.Native.Nat.{ℕ, ◌+◌, ◌-◌, ◌*◌, ◌≤◌, ◌<◌}
use mathlib.Core.Path.{◌≡◌}
use native.Mathlib.Nat.{one-mul, mul-le-mul_right}
use native.Mathlib.Omega.{arith}
use lib.Dec.{lt→ltb}
use lib.IntN.{ℤ, pos, nat_abs, ◌+ℤ◌, ◌*ℤ◌}
use mir.Syntax.{w32, w64}
use mir.Val.{SFits, to_z}
use mir.Facts.{to_z-of_z, to_z_pos, sfits_widen}
use Rattle.laws.proofs.Integers.{nat_abs_mul, small_fits, back_of, widened}
use Rattle.points.specs.Weights.{share}
use Rattle.points.specs.PointRules.{V3}
use Rattle.points.specs.Operations.{most_coordinate}
use Rattle.points.proofs.Shares.{shares_within, whole_some, whole_small, whole_even}
use Rattle.points.proofs.Numerators.{V3_parts, V3_numerator}
use Rattle.points.proofs.rules.inner_vertex.Goals as goal
use Rattle.points.proofs.rules.inner_vertex.Goals.{Start}

module _ (s : Start) where
  abbrev n : ℕ
  n = s.args.corners

  abbrev v : ℤ
  v = s.args.vertex

  abbrev t : ℤ
  t = s.args.sum

  abbrev part : ℕ
  part = (share s.args.weight n).part

  abbrev whole : ℕ
  whole = (share s.args.weight n).whole

  abbrev left : ℕ
  left = whole - n * part

  within : n * part ≤ whole
  within = shares_within s.args.weight n

  some : 0 < whole
  some = whole_some s.args.weight n s.requires.some

  few : whole ≤ 16777216
  few = whole_small s.args.weight n s.requires.few

  parts : left * nat_abs v + part * nat_abs t ≤ most_coordinate * whole
  parts = V3_parts most_coordinate s.args.weight n v t s.requires.place s.requires.small

  part_small : part ≤ whole
  part_small = omega (arith, within, mul-le-mul_right part s.requires.some, one-mul part)

  small : nat_abs (pos left *ℤ v +ℤ pos part *ℤ t) ≤ most_coordinate * whole
  small = V3_numerator most_coordinate s.args.weight n v t s.requires.place s.requires.small

  left_same : to_z w64 left ≡ pos left
  left_same = to_z_pos w64 (omega (arith, few))

  part_same : to_z w64 part ≡ pos part
  part_same = to_z_pos w64 (omega (arith, few, part_small))

  whole_same : to_z w64 whole ≡ pos whole
  whole_same = to_z_pos w64 (omega (arith, few))

  left_fits : SFits w64 (pos left *ℤ v)
  left_fits = small_fits w64 _ (omega (arith, parts, few, nat_abs_mul (pos left) v))

  part_fits : SFits w64 (pos part *ℤ t)
  part_fits = small_fits w64 _ (omega (arith, parts, few, nat_abs_mul (pos part) t))

  fits : SFits w64 (pos left *ℤ v +ℤ pos part *ℤ t)
  fits = small_fits w64 _ (omega (arith, small, few))

pub overflow_mul-rest : goal.overflow_mul-rest
overflow_mul-rest c = rw c.share-share.ensures (record { fits = omega (arith, within (goal.at.overflow_mul-rest c).Start, few (goal.at.overflow_mul-rest c).Start) })

pub overflow_sub-rest : goal.overflow_sub-rest
overflow_sub-rest c = rw c.share-share.ensures (within (goal.at.overflow_sub-rest c).Start)

pub overflow_cast-numerator-2 : goal.overflow_cast-numerator-2
overflow_cast-numerator-2 c = simp (to_z-of_z c.ranges.vertex) (sfits_widen tt c.ranges.vertex)

pub overflow_mul-numerator : goal.overflow_mul-numerator
overflow_mul-numerator c = simp (c.share-share.ensures, left_same (goal.at.overflow_mul-numerator c).Start, widened c.ranges.vertex) (left_fits (goal.at.overflow_mul-numerator c).Start)

pub overflow_cast-numerator-4 : goal.overflow_cast-numerator-4
overflow_cast-numerator-4 c = simp (to_z-of_z c.ranges.sum) (sfits_widen tt c.ranges.sum)

pub overflow_mul-numerator-2 : goal.overflow_mul-numerator-2
overflow_mul-numerator-2 c = simp (c.share-share.ensures, part_same (goal.at.overflow_mul-numerator-2 c).Start, widened c.ranges.sum) (part_fits (goal.at.overflow_mul-numerator-2 c).Start)

pub overflow_add-numerator : goal.overflow_add-numerator
overflow_add-numerator c =
    simp (c.share-share.ensures, left_same (goal.at.overflow_add-numerator c).Start, part_same (goal.at.overflow_add-numerator c).Start, widened c.ranges.vertex, widened c.ranges.sum, to_z-of_z (left_fits (goal.at.overflow_add-numerator c).Start), to_z-of_z (part_fits (goal.at.overflow_add-numerator c).Start)) (fits (goal.at.overflow_add-numerator c).Start)

pub rounded-requires : goal.rounded-requires
rounded-requires c =
    simp (c.share-share.ensures, left_same (goal.at.rounded-requires c).Start, part_same (goal.at.rounded-requires c).Start, whole_same (goal.at.rounded-requires c).Start, widened c.ranges.vertex, widened c.ranges.sum, to_z-of_z (left_fits (goal.at.rounded-requires c).Start), to_z-of_z (part_fits (goal.at.rounded-requires c).Start), to_z-of_z (fits (goal.at.rounded-requires c).Start))
    (record { lt = lt→ltb 0 (whole (goal.at.rounded-requires c).Start) (some (goal.at.rounded-requires c).Start) }, omega (arith, few (goal.at.rounded-requires c).Start), omega (arith, small (goal.at.rounded-requires c).Start), whole_even c.args.weight (n (goal.at.rounded-requires c).Start))

pub returns : goal.returns
unfolding V3
returns c =
    let e =
    simp (c.share-share.ensures, left_same (goal.at.returns c).Start, part_same (goal.at.returns c).Start, whole_same (goal.at.returns c).Start, widened c.ranges.vertex, widened c.ranges.sum, to_z-of_z (left_fits (goal.at.returns c).Start), to_z-of_z (part_fits (goal.at.returns c).Start), to_z-of_z (fits (goal.at.returns c).Start)) at
    c.rounded.ensures
    in
    simp (back_of w32 c.rounded.result c.rounded.type_inv) e
