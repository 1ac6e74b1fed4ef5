-- `check_plain` goes through checks 1 to 8, and then the room.
use native.Mathlib.Omega.{arith}
use Rattle.tables.specs.Tables.{held}
use Rattle.halfedges.proofs.Told.{handed_on}
use Rattle.halfedges.proofs.Checks.{stops_before}
use Rattle.cagefile.specs.declared.fields.Form.TheVariants.{One}
use Rattle.writing.specs.Writing.{plain, write_checks, write_verdict}
use Rattle.writing.proofs.WriteChecks.{write_checked, write_short, write_roomy}
use Rattle.writing.proofs.check_plain.Goals as goal

pub returns-in_err-check_plain : goal.returns-in_err-check_plain
unfolding write_checks write_verdict
returns-in_err-check_plain c = rw (handed_on c.from_residual.ensures) (stops_before _ _ _ c.in_err-check_plain.ensures)

pub overflow_add-tables-2 : goal.overflow_add-tables-2
unfolding write_checks
overflow_add-tables-2 c =
    let s = c.args in
    let cage = plain (held s.tables.now) s.points.now in
    let fits = (write_checked One cage s.file.now c.in_ok-check_plain.ensures).0 in
    omega (arith, fits.few_halfedges, fits.few_vertices)

pub returns-then-file-tables : goal.returns-then-file-tables
unfolding write_checks
returns-then-file-tables c = write_short One _ _ c.in_ok-check_plain.ensures (omega arith)

pub returns : goal.returns
unfolding write_checks
returns c = write_roomy One _ _ c.in_ok-check_plain.ensures (omega arith)
