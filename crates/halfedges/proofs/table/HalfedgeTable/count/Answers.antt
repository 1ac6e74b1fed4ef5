-- `count` goes through its definition's two tests in order, and else answers `levels`.
use mathlib.Core.Path.{sym, ap, ◌∙◌}
use Rattle.halfedges.specs.Refusals.{DONE}
use Rattle.halfedges.proofs.Questions.{count_shape_lem, count_limit, count_done, within}
use Rattle.halfedges.proofs.table.HalfedgeTable.count.Goals as goal

pub returns-then-misshapen : goal.returns-then-misshapen
returns-then-misshapen c = sym (count_shape_lem _ _ (sym c.misshapen.ensures ∙ c.if-misshapen.true))

pub returns-then-above_limit : goal.returns-then-above_limit
returns-then-above_limit c =
    sym (count_limit _ _ (sym c.misshapen.ensures ∙ c.if-misshapen.false) (sym c.above_limit.ensures ∙ c.if-above_limit.true))

pub levels-requires : goal.levels-requires
levels-requires c =
    within _ _ (sym c.misshapen.ensures ∙ c.if-misshapen.false) (sym c.above_limit.ensures ∙ c.if-above_limit.false)

pub returns : goal.returns
returns c =
    ap (λ l. record { verdict = DONE; values = l }) c.levels.ensures
    ∙ sym (count_done _ _ (sym c.misshapen.ensures ∙ c.if-misshapen.false) (sym c.above_limit.ensures ∙ c.if-above_limit.false))
