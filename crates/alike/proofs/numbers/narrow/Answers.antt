-- `narrow` splits off the last digit: what stands before it is narrowed, and the first places are found by both.
use Prim.Native.Nat.{ℕ, ◌≤◌, ◌<◌}
use mathlib.Core.Path.{sym, ◌∙◌}
use mathlib.Core.List.{List}
use native.Mathlib.Omega.{arith}
use lib.ListN.{length, get_or, take}
use lib.Seq.{length-take-le, get_or-take}
use borrow.Author.Tests.{eq-eqb, eqb-true}
use Rattle.alike.specs.Internal.Alike.{bound}
use Rattle.alike.proofs.Digits.{GoesBy, firsts_narrow}
use Rattle.alike.proofs.numbers.narrow.Goals as goal
use Rattle.alike.proofs.numbers.narrow.Goals.{After-narrow_upper, After-split, Start}

-- once the numbers are split
module _ (c : After-split) where
  abbrev start : Start
  start = (goal.at.After-split c).Start

  abbrev numbers : List ℕ
  numbers = start.args.numbers.now

  few : length numbers ≤ bound
  few = start.requires.0

  upper_long : length numbers ≤ length c.split.new.upper
  upper_long = omega (arith, c.split.auto.upper, few)

  low_long : length numbers ≤ length c.split.new.low
  low_long = omega (arith, c.split.auto.low, few)

-- once what stands before the last digit is narrowed
module _ (c : After-narrow_upper) where
  abbrev apart : After-split
  apart = (goal.at.After-narrow_upper c).After-split

  first_long : length (numbers apart) ≤ length c.narrow_upper.new.small
  first_long = omega (arith, c.narrow_upper.auto.small, few apart)

  in_upper : {k : ℕ} → k < length (numbers apart) → k < length (take (length (numbers apart)) apart.split.new.upper)
  in_upper l = rw (length-take-le _ _ (upper_long apart)) l

  below : (k : ℕ) → k < length (numbers apart) → get_or c.narrow_upper.new.small k 0 < bound
  below k l = c.narrow_upper.ensures.below k (in_upper l)

  by_upper : GoesBy (length (numbers apart)) c.narrow_upper.new.small apart.split.new.upper
  by_upper j k lj lk =
      let s = c.narrow_upper.ensures.same j k (in_upper lj) (in_upper lk) in
      let tj = get_or-take (length (numbers apart)) apart.split.new.upper j 0 lj in
      let tk = get_or-take (length (numbers apart)) apart.split.new.upper k 0 lk in
      (λ e. sym tj ∙ eqb-true _ _ (sym s ∙ eq-eqb _ _ e) ∙ tk, λ e. eqb-true _ _ (s ∙ eq-eqb _ _ (tj ∙ e ∙ sym tk)))

pub returns : goal.returns
returns c =
    let s = apart (goal.at.returns c).After-narrow_upper in
    firsts_narrow _ _ _ _ s.split.ensures (few s) (first_long (goal.at.returns c).After-narrow_upper) (low_long s) (below (goal.at.returns c).After-narrow_upper) (by_upper (goal.at.returns c).After-narrow_upper) _ c.find_firsts.ensures
