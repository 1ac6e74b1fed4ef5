-- `find_past` goes up to the first halfedge whose corner is past the points.
use mathlib.Core.Path.{refl}
use native.Mathlib.Omega.{arith}
use borrow.Author.Tests.{le-leb, lt-leb}
use Rattle.tables.proofs.Upto.{upto_none, upto_more, upto_found, upto_all}
use Rattle.stl.specs.Writing.{past_points}
use Rattle.stl.proofs.checks.find_past.Goals as goal

pub loop-halfedge-init : goal.loop-halfedge-init
loop-halfedge-init c = upto_none _

pub returns-then-vertices-vert : goal.returns-then-vertices-vert
unfolding past_points
returns-then-vertices-vert c = upto_found c.loop-halfedge.invariant refl _ (omega arith) (le-leb _ _ c.if-vertices-vert.true)

pub loop-halfedge-preserved : goal.loop-halfedge-preserved
unfolding past_points
loop-halfedge-preserved c = upto_more c.loop-halfedge.invariant refl (lt-leb _ _ c.if-vertices-vert.false)

pub returns : goal.returns
returns c = upto_all _ c.loop-halfedge.invariant (omega arith)
