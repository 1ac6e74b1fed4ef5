-- `check_twins` goes up to the first halfedge that is bad.
use native.Mathlib.Omega.{arith}
use Rattle.tables.proofs.Upto.{upto_none, upto_more, upto_found, upto_all}
use Rattle.tables.proofs.rules.check_twins.Goals as goal

pub loop-halfedge-init : goal.loop-halfedge-init
loop-halfedge-init c = upto_none _

pub returns-then-bad_twin : goal.returns-then-bad_twin
returns-then-bad_twin c =
    upto_found c.loop-halfedge.invariant c.bad_twin.ensures _ (omega arith) c.if-bad_twin.true

pub loop-halfedge-preserved : goal.loop-halfedge-preserved
loop-halfedge-preserved c =
    upto_more c.loop-halfedge.invariant c.bad_twin.ensures c.if-bad_twin.false

pub returns : goal.returns
returns c = upto_all _ c.loop-halfedge.invariant (omega arith)
