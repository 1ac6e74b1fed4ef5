-- `check_tables` goes through the three heads in order: each field that passes leaves what the fields after it answer.
use mathlib.Core.Path.{sym, ap, ◌∙◌}
use mathlib.Core.List.{append-nil}
use Rattle.halfedges.specs.Refusals.{first}
use Rattle.halfedges.proofs.Told.{handed_on}
use Rattle.halfedges.proofs.Checks.{stops_before, passes_before}
use Rattle.cagefile.specs.Fields.{table_heads}
use Rattle.filechecks.specs.Internal.Sound.{front_checks}
use Rattle.filechecks.proofs.check_tables.Goals as goal

pub returns-in_err-check_field : goal.returns-in_err-check_field
unfolding table_heads front_checks
returns-in_err-check_field c = rw (handed_on c.from_residual.ensures) (stops_before _ _ _ c.in_err-check_field.ensures)

pub returns-in_err-check_field-2 : goal.returns-in_err-check_field-2
unfolding table_heads front_checks
returns-in_err-check_field-2 c =
    rw (handed_on c.from_residual-in_err-check_field-2.ensures)
    (stops_before _ _ _ c.in_err-check_field-2.ensures ∙ passes_before _ _ c.in_ok-check_field.ensures)

pub returns : goal.returns
unfolding table_heads front_checks
returns c =
    c.check_field-3.ensures
    ∙ sym (ap first (append-nil _))
    ∙ passes_before _ _ c.in_ok-check_field-2.ensures
    ∙ passes_before _ _ c.in_ok-check_field.ensures
