-- `read_form` looks at the first field, and then reads: the form that is asked for is one of the two.
use Prim.Native.Nat.{ℕ}
use mathlib.Core.Path.{◌∙◌}
use mathlib.Core.List.{List}
use lib.IntN.{ℤ}
use Rattle.halfedges.proofs.Told.{handed_on}
use Rattle.tables.specs.Tables.{Tables, tables}
use Rattle.reading.proofs.Fronts.{ample_told, ample_if_ok}
use Rattle.moves.proofs.FormFirst.{form_refused, form_held}
use Rattle.moves.proofs.read_form.Goals as goal

pub returns-in_err-check_form : goal.returns-in_err-check_form
returns-in_err-check_form c =
    rw (handed_on c.from_residual.ensures) (record { answer_value = form_refused _ _ _ c.in_err-check_form.ensures; fronts = tt })

pub returns : goal.returns
returns c =
    let lent : Tables = tables c.args.twin.now c.args.vert.now c.args.edge.now in
    let now : Tables = tables c.read.new.twin c.read.new.vert c.read.new.edge in
    let points : List ℤ = c.read.new.points in
    let creases : List ℕ = c.read.new.creases in record {
      answer_value = ample_told _ lent c.args.points.now c.args.creases.now c.requires now points creases c.read.result c.read.ensures
          ∙ form_held _ _ c.in_ok-check_form.ensures;
      fronts = ample_if_ok _ lent c.args.points.now c.args.creases.now c.requires now points creases c.read.result c.read.ensures;
    }
