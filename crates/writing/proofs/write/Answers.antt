-- `write` goes through its checks, and then writes the fields.
use mathlib.Core.Path.{sym}
use Rattle.halfedges.proofs.Told.{handed_on}
use Rattle.writing.specs.Writing.{write_file}
use Rattle.writing.proofs.Outcomes.{refused_left, done_left}
use Rattle.writing.proofs.write.Goals as goal

pub returns-in_err-check_plain : goal.returns-in_err-check_plain
unfolding write_file
returns-in_err-check_plain c = rw (handed_on c.from_residual.ensures) (refused_left _ _ _ c.in_err-check_plain.ensures)

pub write_plain-requires : goal.write_plain-requires
write_plain-requires c = sym c.in_ok-check_plain.ensures

pub returns : goal.returns
unfolding write_file
returns c = done_left _ _ c.in_ok-check_plain.ensures c.write_plain.ensures.0 c.write_plain.ensures.1
