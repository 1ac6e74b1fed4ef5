-- `ryebadger_why` puts the explanation in cells, which its number and place fit.
use mathlib.Core.List.{[]}
use mathlib.Core.Path.{sym, ap, subst, ◌∙◌}
use Rattle.answers.specs.Cells.{cells, clause_cells}
use Rattle.answers.specs.Internal.Fitting.{Fitting}
use Rattle.answers.proofs.Answers.{why_fits}
use Rattle.ryebadger.proofs.ryebadger_why.Goals as goal

pub of_why-requires : goal.of_why-requires
of_why-requires c = subst (λ s. Fitting (cells (record { verdict = s.verdict; values = [] }))) (sym c.explain.ensures) (why_fits _ _ _)

pub returns : goal.returns
returns c = c.of_why.ensures ∙ ap clause_cells c.explain.ensures
