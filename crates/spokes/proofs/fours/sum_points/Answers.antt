-- `sum_points` works out three sums of coordinates in range.
use Prim.Native.Nat.{ℕ, ◌≤◌, ◌<◌}
use mathlib.Core.Path.{◌≡◌, ◌∙◌}
use mathlib.Core.List.{[], ◌∷◌}
use native.Mathlib.Omega.{arith}
use borrow.Author.Rules.{rules}
use lib.IntN.{nat_abs, ◌+ℤ◌}
use mir.Syntax.{w32}
use Rattle.laws.proofs.Integers.{back_of}
use Rattle.points.specs.Operations.{most_coordinate}
use Rattle.points.specs.Internal.Cells.{value}
use Rattle.points.proofs.Only.{stored, near_stored, near_kept}
use Rattle.spokes.specs.Internal.Fours.{sum_at}
use Rattle.spokes.proofs.fours.sum_points.Goals as goal
use Rattle.spokes.proofs.fours.sum_points.Goals.{Start}

module _ (s : Start) (k : ℕ) (l : k < 3) where
  asked : (nat_abs (stored (value s.args.p k)) ≤ most_coordinate) × (nat_abs (stored (value s.args.q k)) ≤ most_coordinate) × (nat_abs (stored (value s.args.r k)) ≤ most_coordinate)
  asked = (near_kept s.args.p s.requires.first k l, near_kept s.args.q s.requires.second k l, near_kept s.args.r s.requires.third k l)

  learnt : stored (value s.args.p k) +ℤ stored (value s.args.q k) +ℤ stored (value s.args.r k) ≡ sum_at s.args.p s.args.q s.args.r k
  learnt = rw (near_stored s.args.p s.requires.first k l, near_stored s.args.q s.requires.second k l, near_stored s.args.r s.requires.third k l)

pub sum-requires-2-asks-sum_three-requires : goal.sum-requires-2-asks-sum_three-requires
sum-requires-2-asks-sum_three-requires c s = λ t p x r h i j u. asked (goal.at.sum-requires-2-asks-sum_three-requires c).Start 1 (omega arith)

pub sum-requires-3-asks-sum_three-requires : goal.sum-requires-3-asks-sum_three-requires
sum-requires-3-asks-sum_three-requires c s = λ t p x r h i j u. asked (goal.at.sum-requires-3-asks-sum_three-requires c).Start 2 (omega arith)

pub returns : goal.returns
returns c =
    let x : c.sum.result ≡ sum_at c.args.p c.args.q c.args.r 0 = search (rules, c.sum.ensures, learnt (goal.at.returns c).Start 0 (omega arith)) in
    let y : c.sum-2.result ≡ sum_at c.args.p c.args.q c.args.r 1 = search (rules, c.sum-2.ensures, learnt (goal.at.returns c).Start 1 (omega arith)) in
    let z : c.sum-3.result ≡ sum_at c.args.p c.args.q c.args.r 2 = search (rules, c.sum-3.ensures, learnt (goal.at.returns c).Start 2 (omega arith)) in
    λ i. (back_of w32 _ c.sum.type_inv ∙ x) i ∷ (back_of w32 _ c.sum-2.type_inv ∙ y) i ∷ (back_of w32 _ c.sum-3.type_inv ∙ z) i ∷ []
