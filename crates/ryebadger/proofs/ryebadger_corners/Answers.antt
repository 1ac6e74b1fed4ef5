-- `ryebadger_corners` puts the answer of the corner question in cells, which it fits.
use mathlib.Core.Path.{ap, ◌∙◌}
use Rattle.answers.specs.Cells.{cells}
use Rattle.answers.proofs.Answers.{corners_fit, corners-told}
use Rattle.ryebadger.proofs.ryebadger_corners.Goals as goal

pub of_corners-requires : goal.of_corners-requires
of_corners-requires c = corners-told c.corner_question-corners.result _ c.corner_question-corners.ensures (corners_fit _ _)

pub returns : goal.returns
returns c = c.of_corners.ensures ∙ ap cells c.corner_question-corners.ensures
