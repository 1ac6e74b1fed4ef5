-- `refine` hands on its checks' refusal, and else fills in the tables, the creases and the points above them.
use mathlib.Core.Path.{sym}
use Rattle.halfedges.proofs.Told.{handed_on}
use Rattle.refining.proofs.Refined.{counts_granted, both_done, all_refinable, refine_refused}
use Rattle.refining.proofs.Readied.{points_fit, writable, readied, outcome}
use Rattle.refining.proofs.refine.Goals as goal

pub returns-in_err-plan : goal.returns-in_err-plan
returns-in_err-plan c = rw (handed_on c.from_residual.ensures) (refine_refused _ _ _ _ _ _ _ _ _ c.in_err-plan.ensures)

pub fill-requires : goal.fill-requires
fill-requires c = all_refinable _ _ _ _ _ _ _ _ (sym c.in_ok-plan.ensures) (rw c.vertices.ensures at c.counts_of-counts.ensures)

pub write_creases-requires : goal.write_creases-requires
write_creases-requires c = writable _ _ _ _ _ _ _ _ (sym c.in_ok-plan.ensures) (rw c.vertices.ensures at c.counts_of-counts.ensures)

pub copy-requires : goal.copy-requires
copy-requires c = points_fit _ _ _ _ _ _ _ _ (sym c.in_ok-plan.ensures)

pub refine_points-requires : goal.refine_points-requires
refine_points-requires c = readied _ _ _ _ _ _ _ _ (sym c.in_ok-plan.ensures) (rw c.vertices.ensures at c.counts_of-counts.ensures) c.fill.ensures c.copy.ensures

pub levels-requires : goal.levels-requires
levels-requires c = counts_granted _ _ _ _ _ (both_done _ _ _ _ _ _ _ _ (sym c.in_ok-plan.ensures)).0 (rw c.vertices.ensures at c.counts_of-counts.ensures)

pub returns : goal.returns
returns c =
    outcome _ _ _ _ _ _ _ _ (sym c.in_ok-plan.ensures) (rw c.vertices.ensures at c.counts_of-counts.ensures) c.fill.ensures c.copy.ensures c.levels.ensures c.refine_points.ensures c.write_creases.ensures
