-- `first_of_many` goes up to the first vertex inside with more than 32 corners.
use native.Mathlib.Omega.{arith}
use borrow.Author.Tests.{lt-ltb, le-ltb}
use Rattle.halfedges.specs.Refusals.{VALENCE}
use Rattle.tables.proofs.Upto.{upto_none, upto_more, upto_found, upto_all}
use Rattle.valences.proofs.Counted.{many_is}
use Rattle.valences.proofs.first_of_many.Goals as goal

pub loop-vertex-init : goal.loop-vertex-init
loop-vertex-init c = upto_none _

pub returns-then-corners-vertex-gt-MOST_VALENCE : goal.returns-then-corners-vertex-gt-MOST_VALENCE
returns-then-corners-vertex-gt-MOST_VALENCE c =
    let i = c.loop-vertex in
    upto_found i.invariant (many_is _ _ c.requires i.vertex (omega arith)) VALENCE (omega arith) (lt-ltb _ _ c.if-corners-vertex-gt-MOST_VALENCE.true)

pub loop-vertex-preserved : goal.loop-vertex-preserved
loop-vertex-preserved c =
    let i = c.loop-vertex in
    upto_more i.invariant (many_is _ _ c.requires i.vertex (omega arith)) (le-ltb _ _ c.if-corners-vertex-gt-MOST_VALENCE.false)

pub returns : goal.returns
returns c = upto_all VALENCE c.loop-vertex.invariant (omega arith)
