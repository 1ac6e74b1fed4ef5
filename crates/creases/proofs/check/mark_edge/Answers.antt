-- `mark_edge` leaves the marks where the halfedge has a twin, and else marks its edge.
use borrow.Author.Tests.{eq-eqb, ne_eqb}
use Rattle.creases.proofs.Borders.{twin_kept, edge_marked}
use Rattle.creases.proofs.check.mark_edge.Goals as goal

pub returns-then-twin-halfedge : goal.returns-then-twin-halfedge
returns-then-twin-halfedge c = twin_kept _ _ _ _ (ne_eqb _ _ c.if-twin-halfedge.true)

pub bounds-borders-number : goal.bounds-borders-number
bounds-borders-number c = c.requires.0.below _ c.requires.1

pub returns : goal.returns
returns c = edge_marked _ _ _ _ (eq-eqb _ _ c.if-twin-halfedge.false) (c.requires.0.below _ c.requires.1)
