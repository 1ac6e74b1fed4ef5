-- How the code writes the levels: each straight from the cage's table.
use Rattle.std.specs.Prelude.{ℕ, ◌+◌, ◌-◌, ◌*◌, ◌/◌, ◌^◌, ◌≤◌, ◌≡◌, List, length}
use Rattle.halfedges.specs.declared.table.HalfedgeTable.{HalfedgeTable}
use Rattle.halfedges.specs.Cage.{most_halfedges, most_depth, cell}
use Rattle.halfedges.specs.Internal.Counts.{AtMost}
use Rattle.halfedges.specs.Counts.{room_e}

-- what the cage's table leaves for edge i of level d
abbrev pub left_at : List ℕ → ℕ → ℕ → ℕ
left_at creases d i = cell creases (i / 2 ^ d) - d

-- a number for each edge of a cage with counts t, and room for its levels 0 to the depth
pub record Writable (t : HalfedgeTable) (depth : ℕ) (creases lent : List ℕ) : Type 0 where
  pub long : length creases ≡ t.edges
  pub small : AtMost most_halfedges t
  pub shallow : depth ≤ most_depth
  pub room : room_e t depth ≤ length lent

-- level d has so many edges, among them those that the cage's were halved into, and room from a place on
pub record Fitting (creases : List ℕ) (d at edges : ℕ) (lent : List ℕ) : Type 0 where
  pub shallow : d ≤ most_depth
  pub halves : length creases * 2 ^ d ≤ edges
  pub room : at + edges ≤ length lent
