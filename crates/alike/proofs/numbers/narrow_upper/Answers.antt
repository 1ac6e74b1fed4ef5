-- `narrow_upper` splits the numbers, and finds the first places by both digits.
use Prim.Native.Nat.{ℕ, ◌≤◌, ◌<◌}
use mathlib.Core.List.{List}
use native.Mathlib.Omega.{arith}
use lib.ListN.{length, get_or}
use Rattle.alike.specs.Internal.Alike.{bound}
use Rattle.alike.proofs.Digits.{GoesBy, firsts_narrow}
use Rattle.alike.proofs.numbers.narrow_upper.Goals as goal
use Rattle.alike.proofs.numbers.narrow_upper.Goals.{After-split, Start}

-- once the numbers are split
module _ (c : After-split) where
  abbrev start : Start
  start = (goal.at.After-split c).Start

  abbrev numbers : List ℕ
  numbers = start.args.numbers.now

  high_long : length numbers ≤ length c.split.new.upper
  high_long = omega (arith, c.split.auto.upper, start.requires.numbers_len_bound.0)

  low_long : length numbers ≤ length c.split.new.low
  low_long = omega (arith, c.split.auto.low, start.requires.numbers_len_bound.0)

  below : (k : ℕ) → k < length numbers → get_or c.split.new.upper k 0 < bound
  below k l = omega (arith, c.split.ensures.before k l, start.requires.by_index k l)

  itself : GoesBy (length numbers) c.split.new.upper c.split.new.upper
  itself j k lj lk = (λ e. e, λ e. e)

pub returns : goal.returns
returns c =
    firsts_narrow _ _ _ _ c.split.ensures (start (goal.at.returns c).After-split).requires.numbers_len_bound.0 (high_long (goal.at.returns c).After-split) (low_long (goal.at.returns c).After-split) (below (goal.at.returns c).After-split) (itself (goal.at.returns c).After-split) _ c.find_firsts.ensures
