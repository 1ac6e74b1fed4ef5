-- `write_form_2` goes through its checks, and then writes the fields.
use mathlib.Core.Path.{sym}
use Rattle.halfedges.proofs.Told.{handed_on}
use Rattle.writing.specs.Writing.{write_file}
use Rattle.writing.proofs.Outcomes.{refused_left, done_left}
use Rattle.writing.proofs.write_form_2.Goals as goal

pub returns-in_err-check_creased : goal.returns-in_err-check_creased
unfolding write_file
returns-in_err-check_creased c = rw (handed_on c.from_residual.ensures) (refused_left _ _ _ c.in_err-check_creased.ensures)

pub write_creased-requires : goal.write_creased-requires
write_creased-requires c = sym c.in_ok-check_creased.ensures

pub returns : goal.returns
unfolding write_file
returns c = done_left _ _ c.in_ok-check_creased.ensures c.write_creased.ensures.0 c.write_creased.ensures.1
