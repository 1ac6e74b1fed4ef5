-- `check_plain` looks at the points' field, and leaves the end to `check_end`.
use mathlib.Core.Path.{◌∙◌}
use Rattle.halfedges.proofs.Told.{handed_on}
use Rattle.halfedges.proofs.Checks.{stops_before, passes_before}
use Rattle.cagefile.specs.Fields.{later_heads}
use Rattle.filechecks.specs.FileChecks.{fields_checks}
use Rattle.filechecks.proofs.check_plain.Goals as goal

pub returns-in_err-check_field : goal.returns-in_err-check_field
unfolding later_heads fields_checks
returns-in_err-check_field c =
    rw (handed_on c.from_residual.ensures, ← c.after_tables-at.ensures) (stops_before _ _ _ c.in_err-check_field.ensures)

pub returns : goal.returns
unfolding later_heads fields_checks
returns c = rw (← c.after_tables-at.ensures) (c.check_end.ensures ∙ passes_before _ _ c.in_ok-check_field.ensures)
