-- How the code fills in the levels: in front of the lent tables, end to end.
use Rattle.std.specs.Prelude.{ℕ, ◌≤◌, length}
use Rattle.halfedges.specs.declared.table.HalfedgeTable.{HalfedgeTable}
use Rattle.laws.specs.Parts.{in_front}
use Rattle.halfedges.specs.Cage.{most_halfedges, most_depth}
use Rattle.halfedges.specs.Internal.Counts.{AtMost}
use Rattle.halfedges.specs.Counts.{room_h}
use Rattle.tables.specs.Tables.{Tables, tables}
use Rattle.splitting.specs.Internal.InPlace.{Sound}

-- cells of the three tables in front of what those held
unfoldable pub tables_in_front : Tables → Tables → Tables
tables_in_front c x = tables (in_front c.twin x.twin) (in_front c.vert x.vert) (in_front c.edge x.edge)

-- the tables have room for levels 0 to the depth of a sound cage
pub record Refinable (t : HalfedgeTable) (depth : ℕ) (c x : Tables) : Type 0 where
  pub sound : Sound t c
  pub small : AtMost most_halfedges t
  pub shallow : depth ≤ most_depth
  pub twin_room : room_h t depth ≤ length x.twin
  pub vert_room : room_h t depth ≤ length x.vert
  pub edge_room : room_h t depth ≤ length x.edge
