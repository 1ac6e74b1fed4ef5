-- `ancestor` by where the new halfedge stands: in the middle, at the back of a corner, or in front there.
use mathlib.Core.Path.{sym, ◌∙◌}
use Rattle.climbing.proofs.Made.{from_middle, from_back, from_front}
use Rattle.climbing.proofs.rows.ancestor.Goals as goal

pub returns-then-halfedges-halfedge : goal.returns-then-halfedges-halfedge
returns-then-halfedges-halfedge c = c.previous.ensures ∙ sym (from_middle _ _ c.if-halfedges-halfedge.true)

pub returns-then-halfedge-eq2 : goal.returns-then-halfedge-eq2
returns-then-halfedge-eq2 c = c.previous-then-halfedge-eq2.ensures ∙ sym (from_back _ _ c.if-halfedges-halfedge.false c.if-halfedge-eq2.true)

pub returns : goal.returns
returns c = sym (from_front _ _ c.if-halfedges-halfedge.false c.if-halfedge-eq2.false)
