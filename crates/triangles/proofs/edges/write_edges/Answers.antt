-- `write_edges` numbers one halfedge after the other.
use native.Mathlib.Numerals.{add-one}
use native.Mathlib.Omega.{arith}
use Rattle.laws.proofs.Counts.{count_at_most}
use Rattle.triangles.specs.Plain.{is_lowest}
use Rattle.triangles.proofs.Numbering.{edge_on}
use Rattle.triangles.proofs.edges.write_edges.Goals as goal

pub put_edge-edges-requires-clause-halfedge_lt_most_halfedges : goal.put_edge-edges-requires-clause-halfedge_lt_most_halfedges
put_edge-edges-requires-clause-halfedge_lt_most_halfedges c =
    let i = c.loop-halfedge in (omega (arith, c.requires.1), omega (arith, i.invariant.0, count_at_most i.halfedge (is_lowest c.args.twin.now)))

pub loop-halfedge-preserved : goal.loop-halfedge-preserved
loop-halfedge-preserved c =
    let i = c.loop-halfedge in (
      rw add-one (omega (arith, c.put_edge-edges.ensures.value, i.invariant.0)),
      edge_on c.args.twin.now c.requires.0 (omega (arith, c.requires.1)) c.args.edge.now i.edge i.halfedge i.edges (omega arith) (omega (arith, c.requires.2, i.auto.edge)) i.invariant.0 i.invariant.1 c.put_edge-edges.ensures.edge_after,
    )
