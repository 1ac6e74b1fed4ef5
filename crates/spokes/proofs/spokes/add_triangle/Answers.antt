-- `add_triangle` adds three points, each to what the one before left.
use mathlib.Core.Path.{sym, ap, ◌∙◌, subst}
use Rattle.halfedges.specs.Cage.{cell}
use Rattle.spokes.specs.Internal.Spokes.{add_point, Adds, add_triangle}
use Rattle.spokes.proofs.spokes.add_triangle.Goals as goal

pub add_point-requires-2 : goal.add_point-requires-2
add_point-requires-2 c =
    let t = c.args.corners in
    subst (Adds c.args.vertices (cell t 1) (cell t 2)) (sym c.add_point.ensures) c.requires.second

pub add_point-requires-3 : goal.add_point-requires-3
add_point-requires-3 c =
    let n = c.args.vertices in
    let t = c.args.corners in
    subst (Adds n (cell t 2) (cell t 0)) (sym (c.add_point-2.ensures ∙ ap (add_point n (cell t 1) (cell t 2)) c.add_point.ensures)) c.requires.third

pub returns : goal.returns
unfolding add_triangle
returns c =
    let n = c.args.vertices in
    let t = c.args.corners in
    c.add_point-3.ensures
    ∙ ap (add_point n (cell t 2) (cell t 0)) (c.add_point-2.ensures ∙ ap (add_point n (cell t 1) (cell t 2)) c.add_point.ensures)
