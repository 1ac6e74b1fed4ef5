-- `check` answers by its checks, with the short weight, which has no check more.
use mathlib.Core.Path.{ap, ◌∙◌}
use Rattle.halfedges.specs.Refusals.{first}
use Rattle.halfedges.proofs.Told.{handed_on}
use Rattle.halfedges.proofs.Checks.{said_refused, said_done}
use Rattle.points.specs.Operations.{check_creased}
use Rattle.cage.proofs.CageChecks.{short_checks}
use Rattle.cage.proofs.Cage.check.Goals as goal

pub returns-in_err-check_for_refining : goal.returns-in_err-check_for_refining
unfolding check_creased
returns-in_err-check_for_refining c =
    rw (handed_on c.from_residual.ensures) (said_refused _ _ _ (c.in_err-check_for_refining.ensures ∙ ap first (short_checks _ _ _ _)))

pub returns : goal.returns
unfolding check_creased
returns c = said_done _ _ (c.in_ok-check_for_refining.ensures ∙ ap first (short_checks _ _ _ _)) (rw c.vertices.ensures at c.found.ensures)
