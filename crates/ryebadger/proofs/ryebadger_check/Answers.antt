-- `ryebadger_check` puts the answer of the cage check in cells, which it fits.
use mathlib.Core.Path.{sym, ap, subst, ◌∙◌}
use Rattle.answers.specs.Cells.{cells}
use Rattle.answers.specs.Internal.Fitting.{Fitting}
use Rattle.answers.proofs.Answers.{check_fits}
use Rattle.ryebadger.proofs.ryebadger_check.Goals as goal

pub of_check-requires : goal.of_check-requires
of_check-requires c = subst (λ s. Fitting (cells s)) (sym c.check.ensures) (check_fits _ _ _)

pub returns : goal.returns
returns c = c.of_check.ensures ∙ ap cells c.check.ensures
