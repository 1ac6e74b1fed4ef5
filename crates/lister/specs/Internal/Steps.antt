-- What the lister's functions hand on: no promise cites these.
use Rattle.std.specs.Prelude.{◌≤◌, Result, Ok, Err}
use Rattle.halfedges.specs.declared.refusal.Refusal.{Refusal}
use Rattle.halfedges.specs.declared.table.HalfedgeTable.{HalfedgeTable}
use Rattle.halfedges.specs.Cage.{most_halfedges, most_depth}
use Rattle.halfedges.specs.Refusals.{refused as refused_as}
use Rattle.halfedges.specs.Internal.Counts.{AtMost}
use Rattle.halfedges.specs.Counts.{levels}
use Rattle.tables.specs.declared.check.Checked.{Checked}
use Rattle.text.specs.Replies.{Reply, answered, refused}
use Rattle.lister.specs.Listing.{level_lines}
use Rattle.lister.specs.Internal.Doubling.{doubled}

-- the counts that a check returned
abbrev pub counts : Checked → HalfedgeTable
counts c = record { halfedges = c.halfedges; edges = c.edges; vertices = c.vertices }

-- the counts of an accepted cage are small
pub record Small (c : Checked) : Type 0 where
  pub few_counts : AtMost most_halfedges (counts c)
  pub few_borders : c.borders ≤ most_halfedges

-- the reply to a cage that was checked: the lines by its counts, or the refusal
abbrev pub checked_listing : Result Checked Refusal → Reply
checked_listing (Ok c) = answered (level_lines (levels (counts c) most_depth) (doubled c.borders))
checked_listing (Err q) = refused (refused_as q)
