-- `step_inner` goes by which of an edge's two halfedges comes first.
use borrow.Author.Tests.{lt-ltb, le-ltb}
use Rattle.edgepoints.specs.Internal.Edges.{inner_edge}
use Rattle.edgepoints.proofs.edges.step_inner.Goals as goal

pub finish_edge-requires : goal.finish_edge-requires
finish_edge-requires c =
    record { room = c.requires.room; near = c.requires.spanned.opposite_near; begun = c.requires.begun c.if-halfedge.true }

pub returns-then-halfedge : goal.returns-then-halfedge
unfolding inner_edge
returns-then-halfedge c =
    let h = c.args.halfedge in
    rw (lt-ltb h.twin h.number c.if-halfedge.true) c.finish_edge.ensures

pub returns : goal.returns
unfolding inner_edge
returns c =
    let h = c.args.halfedge in
    rw (le-ltb h.twin h.number c.if-halfedge.false) c.start_edge.ensures
