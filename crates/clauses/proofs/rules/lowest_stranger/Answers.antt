-- `lowest_stranger` goes up to the first stranger.
use mathlib.Core.Path.{sym, ◌∙◌}
use native.Mathlib.Omega.{arith}
use Rattle.laws.proofs.Lowest.{lowest_is, lowest_none}
use Rattle.tables.specs.Rules.{stranger}
use Rattle.clauses.proofs.rules.lowest_stranger.Goals as goal

pub returns-then-is_stranger : goal.returns-then-is_stranger
returns-then-is_stranger c =
    let i = c.loop-place in
    sym (lowest_is _ (stranger _ _ _) i.place (omega arith) (sym c.is_stranger.ensures ∙ c.if-is_stranger.true) i.invariant)

pub returns : goal.returns
returns c = sym (lowest_none _ _ (λ k l. c.loop-place.invariant k (omega arith)))
