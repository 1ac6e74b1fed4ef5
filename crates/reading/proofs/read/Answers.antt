-- `read` hands the refusal on; where there is none it lets the copiers fill the lent tables.
use mathlib.Core.Path.{sym}
use native.Mathlib.Omega.{arith}
use Rattle.halfedges.proofs.Told.{handed_on}
use Rattle.tables.specs.Tables.{tables}
use Rattle.filechecks.proofs.Sound.{sound_length}
use Rattle.reading.proofs.Verdict.{read_sound, read_room}
use Rattle.reading.proofs.Outcomes.{done_left, refused_left}
use Rattle.reading.proofs.read.Goals as goal

pub returns-in_err-check_reading : goal.returns-in_err-check_reading
returns-in_err-check_reading c = rw (handed_on c.from_residual.ensures) (refused_left _ _ _ _ _ c.in_err-check_reading.ensures)

pub copy_tables-requires : goal.copy_tables-requires
copy_tables-requires c =
    let done = sym c.in_ok-check_reading.ensures in
    let room = read_room _ _ _ _ done in
    (omega (arith, sound_length _ (read_sound _ _ _ _ done)), room.twin, room.vert, room.edge)

pub copy_rest-weight-requires : goal.copy_rest-weight-requires
copy_rest-weight-requires c =
    let done = sym c.in_ok-check_reading.ensures in
    let room = read_room _ _ _ _ done in
    (read_sound _ _ _ _ done, room.coordinates, room.creases)

pub of-requires : goal.of-requires
of-requires c = read_sound _ _ _ _ (sym c.in_ok-check_reading.ensures)

pub returns : goal.returns
returns c =
    let t = c.copy_tables.ensures in
    let r = c.copy_rest-weight.ensures in
    done_left _ _ _ _ c.in_ok-check_reading.ensures c.of.result (rw r.0 at c.of.ensures) _ _ _ (λ i. tables (t.0 i) (t.1 i) (t.2 i)) r.1 r.2
