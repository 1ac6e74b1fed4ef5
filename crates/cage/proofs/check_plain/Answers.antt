-- `check_plain` goes through the points' length, checks 1 to 7, and then the coordinates.
use mathlib.Core.Path.{◌∙◌}
use Rattle.halfedges.proofs.Told.{handed_on}
use Rattle.halfedges.proofs.Checks.{stops_before, passes_before}
use Rattle.cage.proofs.CageChecks.{cage_shape, cage_parts, points_last}
use Rattle.cage.proofs.check_plain.Goals as goal

pub returns-then-points-ne0 : goal.returns-then-points-ne0
returns-then-points-ne0 c = cage_shape _ _ _ c.if-points-ne0.true

pub returns-in_err-check_for_depth : goal.returns-in_err-check_for_depth
returns-in_err-check_for_depth c =
    rw (handed_on c.from_residual.ensures, cage_parts _ _ _ c.if-points-ne0.false) (stops_before _ _ _ c.in_err-check_for_depth.ensures)

pub returns : goal.returns
returns c =
    rw (cage_parts _ _ _ c.if-points-ne0.false)
    (c.check_points.ensures ∙ points_last _ ∙ passes_before _ _ c.in_ok-check_for_depth.ensures)
