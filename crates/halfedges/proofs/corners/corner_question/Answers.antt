-- `corner_question` refuses exactly where its definition's test does, and else hands out `corners_of`.
use mathlib.Core.Path.{sym, ap, ◌∙◌}
use Rattle.halfedges.specs.Refusals.{DONE}
use Rattle.halfedges.proofs.Questions.{corner_shape_lem, corner_done, in_table}
use Rattle.halfedges.proofs.corners.corner_question.Goals as goal

pub returns-then-misplaced : goal.returns-then-misplaced
returns-then-misplaced c = sym (corner_shape_lem _ _ (sym c.misplaced.ensures ∙ c.if-misplaced.true))

pub corners_of-requires : goal.corners_of-requires
corners_of-requires c = in_table _ _ (sym c.misplaced.ensures ∙ c.if-misplaced.false)

pub returns : goal.returns
returns c =
    ap (λ x. record { verdict = DONE; values = x }) c.corners_of.ensures
    ∙ sym (corner_done _ _ (sym c.misplaced.ensures ∙ c.if-misplaced.false))
