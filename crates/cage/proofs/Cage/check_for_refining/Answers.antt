-- `check_for_refining` goes through the points' length, checks 1 to 7 with 15, 14, and then the coordinates.
use mathlib.Core.Path.{sym, ◌∙◌}
use Rattle.halfedges.proofs.Told.{handed_on}
use Rattle.halfedges.proofs.Checks.{stops_before, passes_before}
use Rattle.creases.proofs.Accepted.{plain_done}
use Rattle.cage.proofs.CageChecks.{for_valences, refine_shape, refine_parts, points_last}
use Rattle.cage.proofs.Cage.check_for_refining.Goals as goal

pub returns-then-self-ne0 : goal.returns-then-self-ne0
returns-then-self-ne0 c = refine_shape _ _ _ _ _ c.if-self-ne0.true

pub returns-in_err-check_for_depth : goal.returns-in_err-check_for_depth
returns-in_err-check_for_depth c =
    rw (handed_on c.from_residual.ensures, refine_parts _ _ _ _ _ c.if-self-ne0.false) (stops_before _ _ _ (rw c.vertices-vertices.ensures at c.in_err-check_for_depth.ensures))

pub check_valences-requires : goal.check_valences-requires
check_valences-requires c = for_valences _ _ _ (plain_done _ _ _ _ (sym c.in_ok-check_for_depth.ensures))

pub returns-in_err-check_valences : goal.returns-in_err-check_valences
returns-in_err-check_valences c =
    rw (handed_on c.from_residual-in_err-check_valences.ensures, refine_parts _ _ _ _ _ c.if-self-ne0.false)
    (stops_before _ _ _ (rw c.vertices-vertices.ensures at c.in_err-check_valences.ensures) ∙ passes_before _ _ (rw c.vertices-vertices.ensures at c.in_ok-check_for_depth.ensures))

pub returns : goal.returns
returns c =
    rw (refine_parts _ _ _ _ _ c.if-self-ne0.false)
    (c.check_points.ensures
    ∙ points_last _
    ∙ passes_before _ _ (rw c.vertices-vertices.ensures at c.in_ok-check_valences.ensures)
    ∙ passes_before _ _ (rw c.vertices-vertices.ensures at c.in_ok-check_for_depth.ensures))
