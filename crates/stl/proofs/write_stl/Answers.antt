-- `write_stl` goes through its checks, and then writes the file.
use mathlib.Core.Path.{sym}
use Rattle.halfedges.proofs.Told.{handed_on}
use Rattle.writing.proofs.Outcomes.{refused_left, done_left}
use Rattle.stl.specs.Writing.{write_stl}
use Rattle.stl.proofs.Verdict.{stl_ready}
use Rattle.stl.proofs.write_stl.Goals as goal

pub returns-in_err-check : goal.returns-in_err-check
unfolding write_stl
returns-in_err-check c = rw (handed_on c.from_residual.ensures) (refused_left _ _ _ c.in_err-check.ensures)

pub put_file-requires : goal.put_file-requires
put_file-requires c = stl_ready _ _ _ (sym c.in_ok-check.ensures)

pub returns : goal.returns
unfolding write_stl
returns c = done_left _ _ c.in_ok-check.ensures c.put_file.ensures.0 c.put_file.ensures.1
