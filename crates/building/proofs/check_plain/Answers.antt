-- `check_plain` goes through 1, 2 and 13, and then the checks of what is built.
use Prim.Native.Nat.{◌≤◌}
use mathlib.Core.Path.{◌≡◌, sym, ◌∙◌}
use mathlib.Core.Bool.{false}
use native.Mathlib.Omega.{arith}
use lib.ListN.{length}
use lib.Seq.{length-take-le}
use Rattle.halfedges.specs.declared.refusal.Refusal.TheVariants.{Doubled}
use Rattle.halfedges.specs.Counts.{above_limit}
use Rattle.halfedges.proofs.Told.{handed_on}
use Rattle.points.specs.Operations.{vertices, unshaped}
use Rattle.building.proofs.Given.{shape_given, limit_given, whole, doubled-given, twinned, checks_left}
use Rattle.building.proofs.Built.{at_done, at_refused, told_either, in_front_lem}
use Rattle.building.proofs.check_plain.Goals as goal
use Rattle.building.proofs.check_plain.Goals.{After-above_limit, In_ok-map_err, Else-above_limit, Start}

-- where 1 and 2 are passed
module _ (i : Else-above_limit) where
  abbrev start : Start
  start = (goal.at.Else-above_limit i).Start

  shape : unshaped start.args.vert.now start.args.points.now ≡ false
  shape = sym i.unshaped.ensures ∙ i.if-unshaped.false

  limit : above_limit (length start.args.vert.now) (vertices start.args.points.now) 0 ≡ false
  limit = sym i.above_limit.ensures ∙ i.if-above_limit.false

-- the table has a cell for each halfedge
fits : (b : In_ok-map_err) → length (start (goal.at.In_ok-map_err b).Else-above_limit).args.vert.now ≤ length b.build_twins.new.twin
fits b = omega (arith, (whole _ _ (shape (goal.at.In_ok-map_err b).Else-above_limit) (limit (goal.at.In_ok-map_err b).Else-above_limit)).few, (start (goal.at.In_ok-map_err b).Else-above_limit).requires, b.build_twins.auto.twin)

pub returns-then-unshaped : goal.returns-then-unshaped
returns-then-unshaped c = record { result_value = shape_given _ _ (sym c.unshaped.ensures ∙ c.if-unshaped.true); twins_after = tt }

pub returns-then-above_limit : goal.returns-then-above_limit
returns-then-above_limit c =
    record { result_value = limit_given _ _ (sym c.unshaped.ensures ∙ c.if-unshaped.false) (sym c.above_limit.ensures ∙ c.if-above_limit.true); twins_after = tt }

pub build_twins-requires : goal.build_twins-requires
build_twins-requires c =
    let w = whole _ _ (shape (goal.at.build_twins-requires c).Else-above_limit) (limit (goal.at.build_twins-requires c).Else-above_limit) in
    (w, omega (arith, w.few, (start (goal.at.build_twins-requires c).Else-above_limit).requires))

pub returns-in_err-map_err : goal.returns-in_err-map_err
returns-in_err-map_err c =
    let i = (goal.at.returns-in_err-map_err c).Else-above_limit in
    let d = at_refused _ _ _ _ c.in_err-map_err.ensures.variant c.in_err-map_err.ensures.cases c.build_twins.ensures.err in
    let q : c.in_err-map_err.field-0.0 ≡ Doubled d.0 = d.1 in
    rw (handed_on c.from_residual.ensures, q)
    record { result_value = doubled-given _ _ (shape i) (limit i) {p = d.0} d.2.0 d.2.1; twins_after = tt }

pub slice_bounds-check_built-end : goal.slice_bounds-check_built-end
slice_bounds-check_built-end c = fits (goal.at.slice_bounds-check_built-end c).In_ok-map_err

pub slice_bounds-check_built-end-2 : goal.slice_bounds-check_built-end-2
slice_bounds-check_built-end-2 c = sym (length-take-le _ _ (fits (goal.at.slice_bounds-check_built-end-2 c).In_ok-map_err))

pub check_built-requires : goal.check_built-requires
check_built-requires c =
    let i = (goal.at.check_built-requires c).Else-above_limit in
    let e = at_done _ c.in_ok-map_err.ensures.variant c.build_twins.ensures.ok in
    twinned _ _ (shape i) (limit i) e.0 (in_front_lem (start i).args.vert.now (start i).args.twins.now e.1)

pub returns : goal.returns
returns c =
    let i = (goal.at.returns c).Else-above_limit in
    let e = at_done _ c.in_ok-map_err.ensures.variant c.build_twins.ensures.ok in
    record { result_value = c.check_built.ensures ∙ checks_left _ _ (shape i) (limit i) e.0; twins_after = told_either _ e.1 }
