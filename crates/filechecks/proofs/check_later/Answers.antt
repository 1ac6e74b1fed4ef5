-- `check_later` goes through the four fields in order: each that passes leaves what those after it answer.
use mathlib.Core.Path.{ap, ◌∙◌}
use mathlib.Core.List.{append_assoc}
use Rattle.halfedges.specs.Refusals.{first}
use Rattle.halfedges.proofs.Told.{handed_on}
use Rattle.halfedges.proofs.Checks.{stops_before, passes_before}
use Rattle.cagefile.specs.Fields.{later_heads}
use Rattle.filechecks.specs.FileChecks.{field_checks, weight_asked, front_to_back}
use Rattle.filechecks.proofs.check_later.Goals as goal

pub returns-in_err-check_field : goal.returns-in_err-check_field
unfolding later_heads front_to_back
returns-in_err-check_field c =
    rw (handed_on c.from_residual.ensures, ← c.after_tables-creases_at.ensures) (stops_before _ _ _ c.in_err-check_field.ensures)

pub returns-in_err-check_field-2 : goal.returns-in_err-check_field-2
unfolding later_heads front_to_back
returns-in_err-check_field-2 c =
    rw (handed_on c.from_residual-in_err-check_field-2.ensures, ← c.after_tables-creases_at.ensures)
    (stops_before _ _ _ c.in_err-check_field-2.ensures ∙ passes_before _ _ c.in_ok-check_field.ensures)

-- the weight's field and its byte are one list of the code's, and two of the definition's
pub returns-in_err-check_weight : goal.returns-in_err-check_weight
unfolding later_heads front_to_back
returns-in_err-check_weight c =
    rw (handed_on c.from_residual-in_err-check_weight.ensures, ← c.after_tables-creases_at.ensures)
    (stops_before _ _ _ c.in_err-check_weight.ensures
    ∙ ap first (append_assoc (field_checks _ _ _) (weight_asked _ _) _)
    ∙ passes_before _ _ c.in_ok-check_field-2.ensures
    ∙ passes_before _ _ c.in_ok-check_field.ensures)

pub returns : goal.returns
unfolding later_heads front_to_back
returns c =
    rw (← c.after_tables-creases_at.ensures)
    (c.check_end.ensures
    ∙ passes_before _ _ c.in_ok-check_weight.ensures
    ∙ ap first (append_assoc (field_checks _ _ _) (weight_asked _ _) _)
    ∙ passes_before _ _ c.in_ok-check_field-2.ensures
    ∙ passes_before _ _ c.in_ok-check_field.ensures)
