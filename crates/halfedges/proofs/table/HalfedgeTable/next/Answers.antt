-- `next` is NEXT: each arm's test decides the definition's.
use borrow.Author.Tests.{eq-eqb, ne_eqb}
use Rattle.halfedges.specs.Cage.{NEXT}
use Rattle.halfedges.proofs.table.HalfedgeTable.next.Goals as goal

pub returns-then-halfedge-eq2 : goal.returns-then-halfedge-eq2
unfolding NEXT
returns-then-halfedge-eq2 c = simp (eq-eqb _ _ c.if-halfedge-eq2.true)

pub returns-else-halfedge-eq2 : goal.returns-else-halfedge-eq2
unfolding NEXT
returns-else-halfedge-eq2 c = simp (ne_eqb _ _ c.if-halfedge-eq2.false)
