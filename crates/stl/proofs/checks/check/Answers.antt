-- `check` goes through all checks of the level, and then the room.
use mathlib.Core.Path.{sym}
use native.Mathlib.Omega.{arith}
use Rattle.halfedges.proofs.Told.{handed_on}
use Rattle.halfedges.proofs.Checks.{stops_before}
use Rattle.stl.specs.Internal.Facets.{Ready}
use Rattle.stl.specs.Writing.{stl_verdict}
use Rattle.stl.proofs.Verdict.{checked_ready, file-short, file_roomy}
use Rattle.stl.proofs.checks.check.Goals as goal
use Rattle.stl.proofs.checks.check.Goals.{In_ok-check_level}

-- where the level is passed
ready : (c : In_ok-check_level) → Ready c.args.vert.now c.args.points.now
ready c = checked_ready c.args.vert.now c.args.points.now (sym c.in_ok-check_level.ensures)

pub returns-in_err-check_level : goal.returns-in_err-check_level
unfolding stl_verdict
returns-in_err-check_level c = rw (handed_on c.from_residual.ensures) (stops_before _ _ _ c.in_err-check_level.ensures)

pub overflow_mul-vert : goal.overflow_mul-vert
overflow_mul-vert c = omega (arith, (ready c).few)

pub overflow_add-vert : goal.overflow_add-vert
overflow_add-vert c = omega (arith, (ready c).few)

pub returns-then-file-vert : goal.returns-then-file-vert
returns-then-file-vert c = file-short _ _ _ c.in_ok-check_level.ensures c.if-file-vert.true

pub returns : goal.returns
returns c = file_roomy _ _ _ c.in_ok-check_level.ensures c.if-file-vert.false
