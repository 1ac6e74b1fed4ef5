-- `ryebadger_to_form_1` puts the answer of the move in cells, which it fits, and leaves what that leaves.
use mathlib.Core.Path.{sym, ap, subst, ◌∙◌}
use Rattle.answers.specs.Cells.{length_cells}
use Rattle.answers.specs.Internal.Fitting.{Fitting}
use Rattle.answers.proofs.Files.{move_fits}
use Rattle.ryebadger.proofs.ryebadger_to_form_1.Goals as goal

pub of_writing-requires : goal.of_writing-requires
of_writing-requires c = subst (λ s. Fitting (length_cells s)) (sym c.to_form_1-writing.ensures.0) (move_fits _ _ _ _)

pub returns : goal.returns
returns c = let r = c.to_form_1-writing.ensures in (c.of_writing.ensures ∙ ap length_cells r.0, r.1)
