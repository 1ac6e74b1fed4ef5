-- `check_asked` goes through 1 to 7, and then by H of the level.
use Rattle.halfedges.proofs.Told.{handed_on}
use Rattle.halfedges.proofs.Checks.{stops_before}
use Rattle.climbing.specs.Halfedge.{halfedge_checks}
use Rattle.climbing.proofs.Outcomes.{within, not_there, there}
use Rattle.climbing.proofs.check_asked.Goals as goal

pub returns-in_err-check_for_depth : goal.returns-in_err-check_for_depth
unfolding halfedge_checks
returns-in_err-check_for_depth c = rw (handed_on c.from_residual.ensures) (stops_before _ _ _ c.in_err-check_for_depth.ensures)

pub at-level-requires : goal.at-level-requires
at-level-requires c = within _ _ _ c.args.halfedge c.in_ok-check_for_depth.ensures

pub returns-then-level-halfedge : goal.returns-then-level-halfedge
returns-then-level-halfedge c = not_there _ _ _ _ c.in_ok-check_for_depth.ensures c.at-level.ensures c.if-level-halfedge.true

pub returns : goal.returns
returns c = there _ _ _ _ c.in_ok-check_for_depth.ensures c.at-level.ensures c.if-level-halfedge.false
