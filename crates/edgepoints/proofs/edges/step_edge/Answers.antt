-- `step_edge` goes by whether there is a twin.
use mathlib.Core.Path.{sym, ◌∙◌}
use Rattle.edgepoints.proofs.Writes.{border_way, inner_way}
use Rattle.edgepoints.proofs.edges.step_edge.Goals as goal

pub returns-then-halfedge-eq-NO_TWIN : goal.returns-then-halfedge-eq-NO_TWIN
returns-then-halfedge-eq-NO_TWIN c =
    c.put_border.ensures ∙ sym (border_way c.args.vertices c.args.halfedge c.args.points.now c.if-halfedge-eq-NO_TWIN.true)

pub returns : goal.returns
returns c =
    c.step_inner.ensures ∙ sym (inner_way c.args.vertices c.args.halfedge c.args.points.now c.if-halfedge-eq-NO_TWIN.false)
