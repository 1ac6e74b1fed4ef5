-- `plan` goes through 1 to 7, and then the room.
use mathlib.Core.Path.{◌∙◌}
use Rattle.halfedges.proofs.Told.{handed_on}
use Rattle.halfedges.proofs.Checks.{stops_before, passes_before}
use Rattle.levels.specs.Refining.{refine_tables_verdict}
use Rattle.levels.proofs.Granted.{checks_granted}
use Rattle.levels.proofs.refine.plan.Goals as goal

pub returns-in_err-check_for_depth : goal.returns-in_err-check_for_depth
unfolding refine_tables_verdict
returns-in_err-check_for_depth c = rw (handed_on c.from_residual.ensures) (stops_before _ _ _ c.in_err-check_for_depth.ensures)

pub short_levels-requires : goal.short_levels-requires
short_levels-requires c = checks_granted _ _ _ c.in_ok-check_for_depth.ensures c.counts_of.ensures

pub returns : goal.returns
unfolding refine_tables_verdict
returns c = rw c.counts_of.ensures at c.short_levels.ensures ∙ passes_before _ _ c.in_ok-check_for_depth.ensures
