-- The tables have room for any cage, so what is read into them is the file's cage.
use mathlib.Core.Path.{◌∙◌}
use Rattle.halfedges.proofs.Told.{handed_on}
use Rattle.tables.specs.Tables.{tables}
use Rattle.intake.proofs.Outcomes.{file_refused, file_there, file_held, file-checked, file_taken}
use Rattle.intake.proofs.check_file.Goals as goal

pub returns-in_err-reading-clause-result_value : goal.returns-in_err-reading-clause-result_value
returns-in_err-reading-clause-result_value c =
    let a = c.args in
    let lasts = c.read.new in
    rw (handed_on c.from_residual.ensures)
    (file_refused a.file.now (tables a.twin.now a.vert.now a.edge.now) a.points.now c.requires (tables lasts.twin lasts.vert lasts.edge) lasts.points lasts.creases _ c.in_err-reading.ensures)

pub check_read-requires : goal.check_read-requires
check_read-requires c =
    let a = c.args in
    let lasts = c.read.new in
    file_held a.file.now (tables a.twin.now a.vert.now a.edge.now) a.points.now c.requires (tables lasts.twin lasts.vert lasts.edge) lasts.points lasts.creases _ c.in_ok-reading.ensures

pub returns-clause-result_value : goal.returns-clause-result_value
returns-clause-result_value c =
    let a = c.args in
    let lasts = c.read.new in
    c.check_read.ensures
    ∙ file-checked a.file.now (tables a.twin.now a.vert.now a.edge.now) a.points.now c.requires (tables lasts.twin lasts.vert lasts.edge) lasts.points lasts.creases _ c.in_ok-reading.ensures

pub returns-clause-taken : goal.returns-clause-taken
returns-clause-taken c =
    let a = c.args in
    let lasts = c.read.new in
    let now = tables lasts.twin lasts.vert lasts.edge in
    let there = file_there a.file.now (tables a.twin.now a.vert.now a.edge.now) a.points.now c.requires now lasts.points lasts.creases _ c.in_ok-reading.ensures in
    file_taken a.file.now _ now lasts.points lasts.creases there c.check_read.result
    (c.check_read.ensures
    ∙ file-checked a.file.now (tables a.twin.now a.vert.now a.edge.now) a.points.now c.requires now lasts.points lasts.creases _ c.in_ok-reading.ensures)
