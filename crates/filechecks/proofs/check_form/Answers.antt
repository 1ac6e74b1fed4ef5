-- `check_form` looks at the first field, and then at the number in it.
use mathlib.Core.Path.{refl, sym, ◌∙◌}
use borrow.Author.Tests.{eq-eqb, ne_eqb}
use Rattle.halfedges.proofs.Told.{handed_on}
use Rattle.halfedges.proofs.Checks.{stops_before}
use Rattle.cagefile.specs.Fields.{opening}
use Rattle.filechecks.proofs.FieldLaws.{field_at}
use Rattle.filechecks.proofs.LastCheck.{last_given, last_passes}
use Rattle.filechecks.proofs.check_form.Goals as goal

pub returns-in_err-check_field : goal.returns-in_err-check_field
returns-in_err-check_field c = rw (handed_on c.from_residual.ensures) (stops_before _ _ _ c.in_err-check_field.ensures)

pub form_in-requires : goal.form_in-requires
form_in-requires c = (field_at _ 0 opening (sym c.in_ok-check_field.ensures)).whole

pub returns-then-form_in-from : goal.returns-then-form_in-from
returns-then-form_in-from c =
    last_given _ c.in_ok-check_field.ensures _ refl (rw (ne_eqb _ _ (λ e. c.if-form_in-from.true (c.form_in.ensures ∙ e ∙ sym c.from.ensures))) refl)

pub returns : goal.returns
returns c =
    last_passes _ c.in_ok-check_field.ensures _ (rw (eq-eqb _ _ (sym c.form_in.ensures ∙ c.if-form_in-from.false ∙ c.from.ensures)) refl)
