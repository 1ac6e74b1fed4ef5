-- `check_places` runs rules 4 to 6 in number order.
use mathlib.Core.Path.{◌∙◌}
use native.Mathlib.Omega.{arith}
use Rattle.halfedges.specs.Refusals.{EDGE}
use Rattle.halfedges.proofs.Told.{handed_on}
use Rattle.halfedges.proofs.Checks.{stops, passes, given_alone}
use Rattle.tables.proofs.Tables.check_places.Goals as goal

pub returns-in_err-check_vertices : goal.returns-in_err-check_vertices
returns-in_err-check_vertices c = rw (handed_on c.from_residual.ensures) (stops _ _ c.in_err-check_vertices.ensures)

pub returns-in_err-check_uses : goal.returns-in_err-check_uses
returns-in_err-check_uses c =
    rw (handed_on c.from_residual-in_err-check_uses.ensures)
    (stops _ _ c.in_err-check_uses.ensures ∙ passes _ c.in_ok-check_vertices.ensures)

pub returns : goal.returns
returns c =
    c.check_edges.ensures
    ∙ given_alone _ _ EDGE (λ k. omega arith)
    ∙ passes _ c.in_ok-check_uses.ensures
    ∙ passes _ c.in_ok-check_vertices.ensures
