-- `ryebadger_counts` puts the answer of the count question in cells, which it fits.
use mathlib.Core.Path.{ap, ◌∙◌}
use Rattle.answers.specs.Cells.{level_cells}
use Rattle.answers.proofs.Answers.{counts_fit, levels-told}
use Rattle.ryebadger.proofs.ryebadger_counts.Goals as goal

pub of_counts-requires : goal.of_counts-requires
of_counts-requires c = levels-told c.count-counted.result _ c.count-counted.ensures (counts_fit _ _)

pub returns : goal.returns
returns c = c.of_counts.ensures ∙ ap level_cells c.count-counted.ensures
