-- `check_for_depth` runs the checks in number order; what they leave is what the next ones rely on.
use mathlib.Core.Path.{sym, ◌∙◌}
use native.Mathlib.Omega.{arith}
use Rattle.halfedges.specs.Refusals.{FAN}
use Rattle.halfedges.proofs.Told.{handed_on}
use Rattle.halfedges.proofs.Checks.{stops_before, passes_before, given_alone}
use Rattle.tables.proofs.TableChecks.{for_places, for_fans, in_parts}
use Rattle.tables.proofs.Tables.check_for_depth.Goals as goal

pub returns-in_err-check_pairs : goal.returns-in_err-check_pairs
returns-in_err-check_pairs c = rw (handed_on c.from_residual.ensures, in_parts _ _ _) (stops_before _ _ _ c.in_err-check_pairs.ensures)

pub check_places-requires : goal.check_places-requires
check_places-requires c = for_places _ _ _ (sym c.in_ok-check_pairs.ensures)

pub returns-in_err-check_places : goal.returns-in_err-check_places
returns-in_err-check_places c =
    rw (handed_on c.from_residual-in_err-check_places.ensures, in_parts _ _ _)
    (stops_before _ _ _ c.in_err-check_places.ensures ∙ passes_before _ _ c.in_ok-check_pairs.ensures)

pub check_fans-requires : goal.check_fans-requires
check_fans-requires c = for_fans _ _ (for_places _ _ _ (sym c.in_ok-check_pairs.ensures)) (sym c.in_ok-check_places.ensures)

pub returns : goal.returns
returns c =
    rw (in_parts _ _ _)
    (c.check_fans.ensures
    ∙ given_alone _ _ FAN (λ k. omega arith)
    ∙ passes_before _ _ c.in_ok-check_places.ensures
    ∙ passes_before _ _ c.in_ok-check_pairs.ensures)
