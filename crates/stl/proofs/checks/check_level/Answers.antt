-- `check_level` goes through 1, 2, 4 and 8 in their order.
use mathlib.Core.Path.{sym, ◌∙◌}
use Rattle.halfedges.proofs.Told.{handed_on}
use Rattle.halfedges.proofs.Checks.{stops, passes}
use Rattle.cage.proofs.CageChecks.{points_last}
use Rattle.stl.proofs.Verdict.{shape_given, limit_given, corners_left}
use Rattle.stl.proofs.checks.check_level.Goals as goal

pub returns-then-unshaped : goal.returns-then-unshaped
returns-then-unshaped c = shape_given _ _ (sym c.unshaped.ensures ∙ c.if-unshaped.true)

pub returns-then-vert-gt-LONGEST : goal.returns-then-vert-gt-LONGEST
returns-then-vert-gt-LONGEST c = limit_given _ _ (sym c.unshaped.ensures ∙ c.if-unshaped.false) c.if-vert-gt-LONGEST.true

pub returns-in_err-check_corners : goal.returns-in_err-check_corners
returns-in_err-check_corners c =
    rw (handed_on c.from_residual.ensures)
    (stops _ _ c.in_err-check_corners.ensures ∙ corners_left _ _ (sym c.unshaped.ensures ∙ c.if-unshaped.false) c.if-vert-gt-LONGEST.false)

pub returns : goal.returns
returns c =
    c.check_points.ensures
    ∙ points_last _
    ∙ passes _ c.in_ok-check_corners.ensures
    ∙ corners_left _ _ (sym c.unshaped.ensures ∙ c.if-unshaped.false) c.if-vert-gt-LONGEST.false
