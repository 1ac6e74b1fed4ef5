-- `check_pairs` goes through checks 1 and 2, and then rule 3.
use mathlib.Core.Path.{sym, ◌∙◌}
use Rattle.tables.proofs.TableChecks.{pairs_shape, pairs_limit, pairs_twins}
use Rattle.tables.proofs.Tables.check_pairs.Goals as goal

pub returns-then-misshapen : goal.returns-then-misshapen
returns-then-misshapen c = pairs_shape _ _ _ (sym c.misshapen.ensures ∙ c.if-misshapen.true)

pub returns-then-above_limit : goal.returns-then-above_limit
returns-then-above_limit c = pairs_limit _ _ _ (sym c.misshapen.ensures ∙ c.if-misshapen.false) (sym c.above_limit.ensures ∙ c.if-above_limit.true)

pub returns : goal.returns
returns c =
    c.check_twins.ensures ∙ pairs_twins _ _ _ (sym c.misshapen.ensures ∙ c.if-misshapen.false) (sym c.above_limit.ensures ∙ c.if-above_limit.false)
