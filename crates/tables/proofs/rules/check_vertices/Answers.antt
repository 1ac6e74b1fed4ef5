-- `check_vertices` goes up to the first halfedge that is bad.
use borrow.Author.Rules.{rules}
use native.Mathlib.Omega.{arith}
use Rattle.tables.proofs.Upto.{upto_none, upto_more, upto_found, upto_all}
use Rattle.tables.proofs.rules.check_vertices.Goals as goal

pub loop-halfedge-init : goal.loop-halfedge-init
loop-halfedge-init c = upto_none _

pub bad_vertex-requires : goal.bad_vertex-requires
bad_vertex-requires c = (c.requires, search rules)

pub returns-then-bad_vertex : goal.returns-then-bad_vertex
returns-then-bad_vertex c =
    upto_found c.loop-halfedge.invariant c.bad_vertex.ensures _ (omega arith) c.if-bad_vertex.true

pub loop-halfedge-preserved : goal.loop-halfedge-preserved
loop-halfedge-preserved c =
    upto_more c.loop-halfedge.invariant c.bad_vertex.ensures c.if-bad_vertex.false

pub returns : goal.returns
returns c = upto_all _ c.loop-halfedge.invariant (omega arith)
