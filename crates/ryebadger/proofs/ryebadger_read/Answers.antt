-- `ryebadger_read` puts the answer of reading in cells, which it fits, and leaves what that leaves.
use mathlib.Core.Path.{sym, ap, subst, ◌∙◌}
use Rattle.answers.specs.Cells.{cells}
use Rattle.answers.specs.Internal.Fitting.{Fitting}
use Rattle.answers.proofs.Files.{read_fits}
use Rattle.ryebadger.proofs.ryebadger_read.Goals as goal

pub of_reading-requires : goal.of_reading-requires
of_reading-requires c = subst (λ s. Fitting (cells s)) (sym c.read-reading.ensures.0) (read_fits _ _ _ _)

pub returns : goal.returns
returns c =
    let r = c.read-reading.ensures in
    (c.of_reading.ensures ∙ ap cells r.0, r.1, r.2, r.3)
