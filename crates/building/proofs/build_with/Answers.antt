-- `build_with` hands on its checks' refusal, and else writes what stands in the table apart.
use Prim.Native.Nat.{◌≤◌}
use mathlib.Core.Path.{◌≡◌, sym}
use native.Mathlib.Omega.{arith}
use lib.ListN.{length, take}
use lib.Seq.{length-take-le}
use Rattle.halfedges.specs.Refusals.{DONE}
use Rattle.halfedges.proofs.Told.{handed_on}
use Rattle.triangles.specs.Plain.{twin_table}
use Rattle.building.specs.Building.{build_verdict}
use Rattle.building.proofs.Built.{in_front_lem}
use Rattle.building.proofs.Outcome.{limits, writable, build_done, build_refused}
use Rattle.building.proofs.build_with.Goals as goal
use Rattle.building.proofs.build_with.Goals.{In_ok-plan, Start}

-- where the plan is done
module _ (i : In_ok-plan) where
  abbrev start : Start
  start = (goal.at.In_ok-plan i).Start

  done : build_verdict start.args.vert.now start.args.points.now start.args.twin.now start.args.edge.now ≡ DONE
  done = sym i.in_ok-plan.ensures.result_value

  fits : length start.args.vert.now ≤ length i.plan.new.twins
  fits = omega (arith, (limits _ _ _ _ done).0, start.requires, i.plan.auto.twins)

  built : take (length start.args.vert.now) i.plan.new.twins ≡ twin_table start.args.vert.now
  built = in_front_lem start.args.vert.now start.args.twins.now i.in_ok-plan.ensures.twins_after

pub returns-in_err-plan : goal.returns-in_err-plan
returns-in_err-plan c = rw (handed_on c.from_residual.ensures) (build_refused _ _ _ _ _ c.in_err-plan.ensures.result_value)

pub slice_bounds-write_built-end : goal.slice_bounds-write_built-end
slice_bounds-write_built-end c = fits (goal.at.slice_bounds-write_built-end c).In_ok-plan

pub slice_bounds-write_built-end-2 : goal.slice_bounds-write_built-end-2
slice_bounds-write_built-end-2 c = sym (length-take-le _ _ (fits (goal.at.slice_bounds-write_built-end-2 c).In_ok-plan))

pub write_built-requires : goal.write_built-requires
write_built-requires c = let i = (goal.at.write_built-requires c).In_ok-plan in writable _ _ _ _ (done i) (built i)

pub returns : goal.returns
returns c =
    let i = (goal.at.returns c).In_ok-plan in
    let e = c.write_built.ensures in
    build_done _ _ _ _ (done i) (built i) e.result_value e.twin_after e.edge_after
