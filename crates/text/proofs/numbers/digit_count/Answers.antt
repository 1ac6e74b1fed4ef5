-- The digits end at the first byte that is none.
use Rattle.std.proofs.Common.{rules, tests, not}
use Rattle.std.proofs.lemmas.Iterator.{YieldsList-from_slice}
use Rattle.std.proofs.lemmas.Iterator.Search.{position_from_yields_List}
use Rattle.laws.proofs.Position.{found_lowest}
use Rattle.text.specs.Numbers.{is_digit, digit_count}
use Rattle.text.proofs.numbers.digit_count.Goals as goal

pub returns : goal.returns
unfolding digit_count is_digit
returns c =
    let text = c.args.text.now in
    let found = position_from_yields_List (λ byte. not (is_digit byte)) _ _ c.position.result c.position.ensures.ran (YieldsList-from_slice text cc) (λ x b q k. search (rules, tests)) in
    found_lowest (λ byte. not (is_digit byte)) 0 text _ _ found c.unwrap_or.ensures
