-- `number_in` makes its definition's four tests.
use Rattle.std.proofs.Common.{arith, ◌∙◌}
use lib.Seq.{length-take-le}
use Rattle.text.proofs.Numerals.{digits_within, digits_in_front, no_digit, too_many, nothing_after, more, other_after, too_large, fitting}
use Rattle.text.proofs.numbers.number_in.Goals.{then-digits-eq0-via-then-digits-eq0, then-digits-eq0-via-else-digits-eq0+then-digits-gt-MOST_DIGITS, then-digits-eq0-via-else-digits-eq0+else-digits-gt-MOST_DIGITS+then-digits-text, then-digits-eq0-via-else-digits-eq0+else-digits-gt-MOST_DIGITS+else-digits-text+then-text-digits}
use Rattle.text.proofs.numbers.number_in.Goals as goal

pub bounds-text-digits : goal.bounds-text-digits
bounds-text-digits c =
    more c.args.text.now c.args.after _ c.digit_count-digits.ensures c.if-digits-eq0.false c.if-digits-gt-MOST_DIGITS.false c.if-digits-text.false

pub returns-then-digits-eq0 : goal.returns-then-digits-eq0
returns-then-digits-eq0 c =
    elim c.then-digits-eq0.branch [
      | then-digits-eq0-via-then-digits-eq0 w ↦ no_digit _ _ _ c.digit_count-digits.ensures w.if-digits-eq0.true
      | then-digits-eq0-via-else-digits-eq0+then-digits-gt-MOST_DIGITS w ↦ too_many _ _ _ c.digit_count-digits.ensures w.if-digits-eq0.false w.if-digits-gt-MOST_DIGITS.true
      | then-digits-eq0-via-else-digits-eq0+else-digits-gt-MOST_DIGITS+then-digits-text w ↦ nothing_after _ _ _ c.digit_count-digits.ensures w.if-digits-eq0.false w.if-digits-gt-MOST_DIGITS.false w.if-digits-text.true
      | then-digits-eq0-via-else-digits-eq0+else-digits-gt-MOST_DIGITS+else-digits-text+then-text-digits w ↦ other_after _ _ _ c.digit_count-digits.ensures w.if-digits-eq0.false w.if-digits-gt-MOST_DIGITS.false w.if-digits-text.false w.if-text-digits.true
    ]

pub slice_bounds-worth-end : goal.slice_bounds-worth-end
slice_bounds-worth-end c = omega (arith, length-take-le c.digit_count-digits.result c.args.text.now (omega (arith, c.digit_count-digits.ensures, digits_within c.args.text.now)))

pub worth-requires : goal.worth-requires
worth-requires c = digits_in_front _ c.args.after _ c.digit_count-digits.ensures

pub returns-in_err-value : goal.returns-in_err-value
returns-in_err-value c =
    c.from_residual.ensures ∙ too_large _ _ _ c.digit_count-digits.ensures c.if-digits-eq0.false c.if-digits-gt-MOST_DIGITS.false c.if-digits-text.false c.if-text-digits.false c.in_err-value.ensures

pub returns : goal.returns
returns c =
    fitting _ _ _ c.digit_count-digits.ensures c.if-digits-eq0.false c.if-digits-gt-MOST_DIGITS.false c.if-digits-text.false c.if-text-digits.false _ c.in_ok-value.ensures.0 c.in_ok-value.ensures.1
