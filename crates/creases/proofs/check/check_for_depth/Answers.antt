-- `check_for_depth` runs the checks in their order; what they leave is what the next ones rely on.
use mathlib.Core.Path.{sym, ◌∙◌}
use native.Mathlib.Omega.{arith}
use Rattle.halfedges.specs.Refusals.{FAN}
use Rattle.halfedges.proofs.Told.{handed_on}
use Rattle.halfedges.proofs.Checks.{stops, passes, stops_before, passes_before, given_alone}
use Rattle.tables.specs.Tables.{held}
use Rattle.tables.specs.Internal.Relied.{ForPlaces}
use Rattle.tables.proofs.TableChecks.{for_places, for_fans}
use Rattle.creases.proofs.CreaseChecks.{in_parts, length_stops, length_passes, for_creases}
use Rattle.creases.proofs.check.check_for_depth.Goals as goal
use Rattle.creases.proofs.check.check_for_depth.Goals.{In_ok-check_pairs, Start}

-- what 1 to 3 leave
for_rest : (i : In_ok-check_pairs) → let s = (goal.at.In_ok-check_pairs i).Start in ForPlaces (held s.args.cage.now) s.args.vertices
for_rest i = for_places _ _ _ (sym i.in_ok-check_pairs.ensures)

pub returns-in_err-check_pairs : goal.returns-in_err-check_pairs
returns-in_err-check_pairs c = rw (handed_on c.from_residual.ensures, in_parts _ _ _ _) (stops_before _ _ _ c.in_err-check_pairs.ensures)

pub returns-then-creases-count_edges : goal.returns-then-creases-count_edges
returns-then-creases-count_edges c =
    rw (in_parts _ _ _ _)
    (length_stops _ _ _ c.count_edges.ensures c.if-creases-count_edges.true ∙ passes_before _ _ c.in_ok-check_pairs.ensures)

pub check_places-requires : goal.check_places-requires
check_places-requires c = for_rest (goal.at.check_places-requires c).In_ok-check_pairs

pub returns-in_err-check_places : goal.returns-in_err-check_places
returns-in_err-check_places c =
    rw (handed_on c.from_residual-in_err-check_places.ensures, in_parts _ _ _ _)
    (stops_before _ _ _ c.in_err-check_places.ensures
    ∙ length_passes _ _ _ c.count_edges.ensures c.if-creases-count_edges.false
    ∙ passes_before _ _ c.in_ok-check_pairs.ensures)

pub check_creases-requires : goal.check_creases-requires
check_creases-requires c =
    for_creases _ _ _ c.count_edges.ensures c.if-creases-count_edges.false (for_rest (goal.at.check_creases-requires c).In_ok-check_pairs) (sym c.in_ok-check_places.ensures)

pub returns-in_err-check_creases : goal.returns-in_err-check_creases
returns-in_err-check_creases c =
    rw (handed_on c.from_residual-in_err-check_creases.ensures, in_parts _ _ _ _)
    (stops _ _ c.in_err-check_creases.ensures
    ∙ passes_before _ _ c.in_ok-check_places.ensures
    ∙ length_passes _ _ _ c.count_edges.ensures c.if-creases-count_edges.false
    ∙ passes_before _ _ c.in_ok-check_pairs.ensures)

pub check_fans-requires : goal.check_fans-requires
check_fans-requires c = for_fans _ _ (for_rest (goal.at.check_fans-requires c).In_ok-check_pairs) (sym c.in_ok-check_places.ensures)

pub returns : goal.returns
returns c =
    rw (in_parts _ _ _ _)
    (c.check_fans.ensures
    ∙ given_alone _ _ FAN (λ k. omega arith)
    ∙ passes _ c.in_ok-check_creases.ensures
    ∙ passes_before _ _ c.in_ok-check_places.ensures
    ∙ length_passes _ _ _ c.count_edges.ensures c.if-creases-count_edges.false
    ∙ passes_before _ _ c.in_ok-check_pairs.ensures)
