-- `previous` is PREV: each arm's test decides the definition's.
use borrow.Author.Tests.{eq-eqb, ne_eqb}
use Rattle.halfedges.specs.Cage.{PREV}
use Rattle.halfedges.proofs.table.HalfedgeTable.previous.Goals as goal

pub returns-then-halfedge-eq0 : goal.returns-then-halfedge-eq0
unfolding PREV
returns-then-halfedge-eq0 c = simp (eq-eqb _ _ c.if-halfedge-eq0.true)

pub returns-else-halfedge-eq0 : goal.returns-else-halfedge-eq0
unfolding PREV
returns-else-halfedge-eq0 c = simp (ne_eqb _ _ c.if-halfedge-eq0.false)
