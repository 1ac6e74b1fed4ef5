-- `ryebadger_write_form_2` puts the answer of writing in cells, which it fits, and leaves what that leaves, by the weight of the number.
use mathlib.Core.Path.{sym, ap, subst, ◌∙◌}
use Rattle.tables.specs.Tables.{tables}
use Rattle.points.specs.declared.weights.Weight.{Weight}
use Rattle.cagefile.specs.declared.fields.Form.TheVariants.{Two}
use Rattle.writing.specs.Writing.{Written, write_file}
use Rattle.answers.specs.Cells.{length_cells}
use Rattle.answers.specs.Internal.Fitting.{Fitting}
use Rattle.answers.proofs.Files.{write_fits}
use Rattle.ryebadger.proofs.ryebadger_write_form_2.Goals as goal

pub of_writing-requires : goal.of_writing-requires
of_writing-requires c = subst (λ s. Fitting (length_cells s)) (sym c.write_form_2-writing.ensures.0) (write_fits _ _ _)

pub returns : goal.returns
returns c =
    let s = c.args in
    let after : Weight → Written =
    λ w. write_file Two
    (record {
      connectivity = tables s.twin.now s.vert.now s.edge.now;
      points = s.points.now;
      creases = s.creases.now;
      weight = w;
    })
    s.file.now
    in
    let r = c.write_form_2-writing.ensures in
    (c.of_writing.ensures ∙ ap length_cells (r.0 ∙ ap (λ w. (after w).answer) c.from-told.ensures), r.1 ∙ ap (λ w. (after w).file) c.from-told.ensures)
