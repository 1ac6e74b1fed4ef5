-- `check_file` goes through the file's parts in order: each that passes leaves what the later ones answer.
use mathlib.Core.Path.{sym, ◌∙◌}
use Rattle.halfedges.proofs.Told.{handed_on}
use Rattle.halfedges.proofs.Checks.{stops_before, passes_before}
use Rattle.cagefile.specs.Fields.{opening}
use Rattle.filechecks.specs.FileChecks.{front_to_back, both, file_checks}
use Rattle.filechecks.proofs.FieldLaws.{field_at}
use Rattle.filechecks.proofs.AfterTables.{tables_whole, tables_stop, plain_left_lem, creased_left_lem}
use Rattle.filechecks.proofs.Sound.{opening_kept}
use Rattle.filechecks.proofs.check_file.Goals as goal

pub returns-in_err-check_field : goal.returns-in_err-check_field
unfolding file_checks front_to_back
returns-in_err-check_field c = rw (handed_on c.from_residual.ensures) (stops_before _ _ _ c.in_err-check_field.ensures)

pub check_opening-requires : goal.check_opening-requires
check_opening-requires c = (field_at _ 0 opening (sym c.in_ok-check_field.ensures)).whole

pub returns-in_err-form : goal.returns-in_err-form
unfolding file_checks front_to_back
returns-in_err-form c =
    rw (handed_on c.from_residual-in_err-form.ensures)
    (stops_before _ _ _ c.in_err-form.ensures.checked ∙ passes_before _ _ c.in_ok-check_field.ensures)

pub halfedges_in-halfedges-requires : goal.halfedges_in-halfedges-requires
halfedges_in-halfedges-requires c = (field_at _ 0 opening (sym c.in_ok-check_field.ensures)).whole

pub vertices_in-vertices-requires : goal.vertices_in-vertices-requires
vertices_in-vertices-requires c = (field_at _ 0 opening (sym c.in_ok-check_field.ensures)).whole

pub check_tables-requires : goal.check_tables-requires
check_tables-requires c = rw c.halfedges_in-halfedges.ensures.0 (opening_kept both _ 0 (sym c.in_ok-form.ensures.checked)).1

pub returns-in_err-check_tables : goal.returns-in_err-check_tables
unfolding file_checks front_to_back
returns-in_err-check_tables c =
    rw (handed_on c.from_residual-in_err-check_tables.ensures)
    (tables_stop _ _ (rw c.halfedges_in-halfedges.ensures.0 at c.in_err-check_tables.ensures)
    ∙ passes_before _ _ c.in_ok-form.ensures.checked
    ∙ passes_before _ _ c.in_ok-check_field.ensures)

pub check_plain-requires : goal.check_plain-requires
check_plain-requires c =
    let k = opening_kept both _ 0 (sym c.in_ok-form.ensures.checked) in
    (rw c.halfedges_in-halfedges.ensures.0 k.1, rw c.vertices_in-vertices.ensures.0 k.2)

pub returns-in-One : goal.returns-in-One
unfolding file_checks front_to_back
returns-in-One c =
    let h = c.halfedges_in-halfedges.ensures.0 in
    (rw (h, c.vertices_in-vertices.ensures.0) at c.check_plain.ensures)
    ∙ plain_left_lem _ (rw h at c.in_ok-check_tables.ensures) (sym c.in_ok-form.ensures.known ∙ c.in-One.is)
    ∙ passes_before _ _ c.in_ok-form.ensures.checked
    ∙ passes_before _ _ c.in_ok-check_field.ensures

pub check_creased-requires : goal.check_creased-requires
check_creased-requires c =
    let k = opening_kept both _ 0 (sym c.in_ok-form.ensures.checked) in
    record {
      halfedges = c.halfedges_in-halfedges.ensures.0;
      few_halfedges = rw c.halfedges_in-halfedges.ensures.0 k.1;
      few_vertices = rw c.vertices_in-vertices.ensures.0 k.2;
      whole = tables_whole _ _ (sym c.in_ok-check_tables.ensures);
    }

pub returns-in-Two : goal.returns-in-Two
unfolding file_checks front_to_back
returns-in-Two c =
    let h = c.halfedges_in-halfedges.ensures.0 in
    (rw (h, c.vertices_in-vertices.ensures.0) at c.check_creased.ensures)
    ∙ creased_left_lem _ (rw h at c.in_ok-check_tables.ensures) (sym c.in_ok-form.ensures.known ∙ c.in-Two.is)
    ∙ passes_before _ _ c.in_ok-form.ensures.checked
    ∙ passes_before _ _ c.in_ok-check_field.ensures
