-- `refine_tables` answers its checks, and else fills in the levels.
use Rattle.halfedges.proofs.Told.{handed_on}
use Rattle.levels.proofs.Granted.{all_granted, all_refinable, refine_refused, refine_done}
use Rattle.levels.proofs.refine.refine_tables.Goals as goal

pub returns-in_err-plan : goal.returns-in_err-plan
returns-in_err-plan c =
    let r = refine_refused _ _ _ _ _ c.in_err-plan.ensures in
    record { result_value = rw (handed_on c.from_residual.ensures) r.0; edge_after = r.1 }

pub fill-requires : goal.fill-requires
fill-requires c = all_refinable _ _ _ _ c.in_ok-plan.ensures c.counts_of-counts.ensures

pub levels-requires : goal.levels-requires
levels-requires c = all_granted _ _ _ _ c.in_ok-plan.ensures c.counts_of-counts.ensures

pub returns : goal.returns
returns c =
    let ready = refine_done _ _ _ _ c.in_ok-plan.ensures c.counts_of-counts.ensures c.levels.ensures c.fill.ensures in
    record { result_value = ready.0; edge_after = ready.1 }
