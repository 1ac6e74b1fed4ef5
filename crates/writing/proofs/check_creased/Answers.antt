-- `check_creased` goes through checks 1 to 8 and 15, and then the room.
use mathlib.Core.Path.{◌≡◌, ap, ◌∙◌}
use native.Mathlib.Omega.{arith}
use Rattle.halfedges.specs.Refusals.{DONE, first}
use Rattle.halfedges.proofs.Told.{handed_on}
use Rattle.halfedges.proofs.Checks.{stops_before}
use Rattle.tables.proofs.EdgeCount.{edges_at_most}
use Rattle.cage.proofs.CageChecks.{short_checks}
use Rattle.cagefile.specs.declared.fields.Form.TheVariants.{Two}
use Rattle.cagefile.specs.Fields.{Cage}
use Rattle.cagefile.proofs.Fits.{Fits, Numbered}
use Rattle.writing.specs.Writing.{weighted, write_checks, write_verdict}
use Rattle.writing.proofs.WriteChecks.{write_checked, write_short, write_roomy}
use Rattle.writing.proofs.check_creased.Goals as goal
use Rattle.writing.proofs.check_creased.Goals.{In_ok-check_for_refining}

-- past the checks: they are done, and the cage fits
module _ (c : In_ok-check_for_refining) where
  abbrev cage : Cage
  cage = weighted c.args.cage.now c.args.weight

  checks : DONE ≡ first (write_checks Two cage)
  unfolding write_checks
  checks = c.in_ok-check_for_refining.ensures ∙ ap first (short_checks cage.connectivity cage.creases cage.points 0)

  fits : Fits cage.connectivity cage.points × Numbered Two cage
  fits = write_checked Two cage c.args.file.now checks

pub returns-in_err-check_for_refining : goal.returns-in_err-check_for_refining
unfolding write_checks write_verdict
returns-in_err-check_for_refining c =
    rw (handed_on c.from_residual.ensures) (stops_before _ _ _ (c.in_err-check_for_refining.ensures ∙ ap first (short_checks _ _ _ 0)))

pub overflow_add-cage-2 : goal.overflow_add-cage-2
overflow_add-cage-2 c = omega (arith, c.vertices.ensures, fits (goal.at.overflow_add-cage-2 c).In_ok-check_for_refining)

pub overflow_add-cage-3 : goal.overflow_add-cage-3
overflow_add-cage-3 c = omega (arith, c.vertices.ensures, fits (goal.at.overflow_add-cage-3 c).In_ok-check_for_refining, edges_at_most c.args.cage.now.tables.twin.now)

pub returns-then-file-cage : goal.returns-then-file-cage
returns-then-file-cage c = write_short Two _ _ (checks (goal.at.returns-then-file-cage c).In_ok-check_for_refining) (omega arith)

pub returns : goal.returns
returns c = write_roomy Two _ _ (checks (goal.at.returns c).In_ok-check_for_refining) (omega arith)
