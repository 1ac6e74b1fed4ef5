-- `check_built` runs 4, 5, 7 and 8 in number order; what a check leaves is what the next ones rely on.
use mathlib.Core.Path.{sym, ap, ◌∙◌}
use native.Mathlib.Omega.{arith}
use Rattle.halfedges.specs.Refusals.{VERTEX, UNUSED, POINT}
use Rattle.halfedges.proofs.Told.{handed_on}
use Rattle.halfedges.proofs.Checks.{passed_clean, stops, passes, given_alone}
use Rattle.tables.proofs.Meaning.{placed, used}
use Rattle.building.specs.Building.{build_checks}
use Rattle.building.specs.Internal.Relied.{built_checks}
use Rattle.building.proofs.Built.{for_vertices, for_fans, vertex_told, fan_told}
use Rattle.building.proofs.check_built.Goals as goal

pub check_vertices-requires : goal.check_vertices-requires
check_vertices-requires c = for_vertices c.requires

pub returns-in_err-check_vertices : goal.returns-in_err-check_vertices
unfolding built_checks build_checks
returns-in_err-check_vertices c = rw (handed_on c.from_residual.ensures) (stops _ _ (vertex_told c.requires c.in_err-check_vertices.ensures))

pub returns-in_err-check_uses : goal.returns-in_err-check_uses
unfolding built_checks build_checks
returns-in_err-check_uses c =
    rw (handed_on c.from_residual-in_err-check_uses.ensures)
    (stops _ _ c.in_err-check_uses.ensures ∙ passes _ (vertex_told c.requires c.in_ok-check_vertices.ensures))

pub check_fans-requires : goal.check_fans-requires
check_fans-requires c = (
  for_fans c.requires
      (placed _ _ _ (passed_clean _ _ VERTEX (λ k. omega arith) (ap (λ w. w.number) (sym c.in_ok-check_vertices.ensures))))
      (used _ _ (passed_clean _ _ UNUSED (λ k. omega arith) (ap (λ w. w.number) (sym c.in_ok-check_uses.ensures)))),
  c.requires.few,
)

pub returns-in_err-check_fans : goal.returns-in_err-check_fans
unfolding built_checks build_checks
returns-in_err-check_fans c =
    rw (handed_on c.from_residual-in_err-check_fans.ensures)
    (stops _ _ (fan_told c.requires c.in_err-check_fans.ensures)
    ∙ passes _ c.in_ok-check_uses.ensures
    ∙ passes _ (vertex_told c.requires c.in_ok-check_vertices.ensures))

pub returns : goal.returns
unfolding built_checks build_checks
returns c =
    c.check_points.ensures
    ∙ given_alone _ _ POINT (λ k. omega arith)
    ∙ passes _ (fan_told c.requires c.in_ok-check_fans.ensures)
    ∙ passes _ c.in_ok-check_uses.ensures
    ∙ passes _ (vertex_told c.requires c.in_ok-check_vertices.ensures)
