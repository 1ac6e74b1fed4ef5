-- What `number_in` finds in the part from the place on is found so many bytes later in the whole.
use Rattle.std.proofs.Common.{arith, ◌∙◌}
use Rattle.text.proofs.Numerals.{past_end, missing_there, found_there, next_fits}
use Rattle.text.proofs.numbers.number_at.Goals as goal

pub returns-in_err-get : goal.returns-in_err-get
returns-in_err-get c = c.from_residual.ensures ∙ past_end _ _ _ (omega (arith, c.in_err-get.ensures.lookup.0))

pub returns-in_err-number : goal.returns-in_err-number
returns-in_err-number c =
    c.from_residual-in_err-number.ensures ∙ missing_there c.args.text.now c.args.at c.args.after _ c.in_ok-get.ensures.lookup.0.2 c.in_err-number.ensures

pub overflow_add-result : goal.overflow_add-result
overflow_add-result c =
    omega (arith, c.in_ok-get.ensures.lookup.0, next_fits c.args.text.now c.args.at c.args.after _ c.in_ok-get.ensures.lookup.0.2 c.in_ok-number.number c.in_ok-number.ensures)

pub returns : goal.returns
returns c =
    found_there c.args.text.now c.args.at c.args.after _ c.in_ok-get.ensures.lookup.0.2 c.in_ok-number.number c.in_ok-number.ensures
