-- `ryebadger_build` puts the answer of building in cells, which it fits, and leaves what that leaves.
use mathlib.Core.Path.{sym, ap, subst, ◌∙◌}
use Rattle.answers.specs.Cells.{cells}
use Rattle.answers.specs.Internal.Fitting.{Fitting}
use Rattle.answers.proofs.Answers.{build_fits}
use Rattle.ryebadger.proofs.ryebadger_build.Goals as goal

pub of_check-requires : goal.of_check-requires
of_check-requires c = subst (λ s. Fitting (cells s)) (sym c.build-checked.ensures.0) (build_fits _ _ _ _)

pub returns : goal.returns
returns c = let b = c.build-checked.ensures in (c.of_check.ensures ∙ ap cells b.0, b.1, b.2)
