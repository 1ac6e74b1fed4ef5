-- `first_bad_edge` goes up to the first halfedge that is bad.
use borrow.Author.Rules.{rules}
use native.Mathlib.Omega.{arith}
use Rattle.tables.proofs.Upto.{upto_none, upto_more, upto_found, upto_all}
use Rattle.tables.proofs.rules.first_bad_edge.Goals as goal

pub loop-halfedge-init : goal.loop-halfedge-init
loop-halfedge-init c = upto_none _

pub bad_edge-requires : goal.bad_edge-requires
bad_edge-requires c = (c.requires.0, c.requires.1, search rules)

pub returns-then-bad_edge : goal.returns-then-bad_edge
returns-then-bad_edge c =
    upto_found c.loop-halfedge.invariant c.bad_edge.ensures _ (omega arith) c.if-bad_edge.true

pub loop-halfedge-preserved : goal.loop-halfedge-preserved
loop-halfedge-preserved c =
    upto_more c.loop-halfedge.invariant c.bad_edge.ensures c.if-bad_edge.false

pub returns : goal.returns
returns c = upto_all _ c.loop-halfedge.invariant (omega arith)
