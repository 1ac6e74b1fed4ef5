-- `within` makes the definition's test.
use mathlib.Core.Path.{◌∙◌}
use borrow.Author.Tests.{le-leb, lt-leb}
use Rattle.halfedges.proofs.table.HalfedgeTable.within.Goals as goal

pub returns-then-depth-level : goal.returns-then-depth-level
returns-then-depth-level c = rw (lt-leb _ _ c.if-depth-level.true)

pub returns : goal.returns
returns c = c.at.ensures ∙ rw (le-leb _ _ c.if-depth-level.false)
