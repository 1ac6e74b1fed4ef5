-- `plan` goes through 1 to 8, 14 and 15, the room of the three tables, that of the points, and that of the creases.
use mathlib.Core.Path.{sym}
use native.Mathlib.Omega.{arith}
use Rattle.halfedges.proofs.Told.{handed_on}
use Rattle.halfedges.proofs.Checks.{stops_before}
use Rattle.points.specs.Operations.{refine_verdict}
use Rattle.refining.proofs.Refined.{few_vertices, counts_granted, tables-short, points_short, creases_short, all_roomy}
use Rattle.refining.proofs.plan.Goals as goal

pub returns-in_err-check_for_refining : goal.returns-in_err-check_for_refining
unfolding refine_verdict
returns-in_err-check_for_refining c = rw (handed_on c.from_residual.ensures) (stops_before _ _ _ c.in_err-check_for_refining.ensures)

pub short_levels-requires : goal.short_levels-requires
short_levels-requires c = counts_granted _ _ _ _ _ (sym c.in_ok-check_for_refining.ensures) (rw c.vertices.ensures at c.counts_of-counts.ensures)

pub returns-in_err-short_levels : goal.returns-in_err-short_levels
returns-in_err-short_levels c =
    rw (handed_on c.from_residual-in_err-short_levels.ensures)
    (tables-short _ _ _ _ _ _ _ _ (sym c.in_ok-check_for_refining.ensures) (rw c.vertices.ensures at c.counts_of-counts.ensures) _ c.in_err-short_levels.ensures)

pub levels-levels-requires : goal.levels-levels-requires
levels-levels-requires c = counts_granted _ _ _ _ _ (sym c.in_ok-check_for_refining.ensures) (rw c.vertices.ensures at c.counts_of-counts.ensures)

pub overflow_mul-levels : goal.overflow_mul-levels
overflow_mul-levels c =
    omega (arith, few_vertices _ _ (counts_granted _ _ _ _ _ (sym c.in_ok-check_for_refining.ensures) (rw c.vertices.ensures at c.counts_of-counts.ensures)) c.levels-levels.ensures)

pub returns-then-points-levels : goal.returns-then-points-levels
returns-then-points-levels c =
    points_short _ _ _ _ _ _ _ _ (sym c.in_ok-check_for_refining.ensures) (rw c.vertices.ensures at c.counts_of-counts.ensures) c.in_ok-short_levels.ensures c.levels-levels.ensures c.if-points-levels.true

pub returns-then-creases-levels : goal.returns-then-creases-levels
returns-then-creases-levels c =
    creases_short _ _ _ _ _ _ _ _ (sym c.in_ok-check_for_refining.ensures) (rw c.vertices.ensures at c.counts_of-counts.ensures) c.in_ok-short_levels.ensures c.levels-levels.ensures c.if-points-levels.false c.if-creases-levels.true

pub returns : goal.returns
returns c =
    all_roomy _ _ _ _ _ _ _ _ (sym c.in_ok-check_for_refining.ensures) (rw c.vertices.ensures at c.counts_of-counts.ensures) c.in_ok-short_levels.ensures c.levels-levels.ensures c.if-points-levels.false c.if-creases-levels.false
