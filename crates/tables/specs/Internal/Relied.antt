-- What the checks of rules 4 to 7 rely on.
use Rattle.std.specs.Prelude.{ℕ, ◌%◌, ◌≤◌, ◌≡◌, List, length}
use Rattle.halfedges.specs.Cage.{most_halfedges, most_vertices}
use Rattle.tables.specs.Tables.{Tables}
use Rattle.tables.specs.Ruled.{Shaped, Paired, Placed, Used}
use Rattle.tables.specs.Internal.Tally.{Tallied}
use Rattle.tables.specs.Internal.Walks.{Walkable, Kept}

-- for rule 4: rule 3, whole triangles, and a vertex of each halfedge
pub record ForVertices (twin vert : List ℕ) : Type 0 where
  pub paired : Paired twin
  pub whole : length twin % 3 ≡ 0
  pub long : length vert ≡ length twin

-- for rule 6: rule 3, an edge of each halfedge, and the limit
pub record ForEdges (twin edge : List ℕ) : Type 0 where
  pub paired : Paired twin
  pub long : length edge ≡ length twin
  pub few : length twin ≤ most_halfedges

-- for rules 4 to 6: rules 1 to 3
pub record ForPlaces (c : Tables) (v : ℕ) : Type 0 where
  pub shaped : Shaped c
  pub paired : Paired c.twin
  pub few : length c.twin ≤ most_halfedges
  pub room : v ≤ most_vertices

-- for rule 7: walks by the links, rules 4 and 5, and a vertex of each halfedge
pub record ForFans (twin vert : List ℕ) (v : ℕ) : Type 0 where
  pub walkable : Walkable twin
  pub placed : Placed twin vert v
  pub used : Used vert v
  pub long : length vert ≡ length twin

-- a table is tallied, with a cell for each number below n
pub record TalliedTo (n : ℕ) (table tally : List ℕ) : Type 0 where
  pub counted : Tallied table (length table) tally
  pub room : n ≤ length tally

-- of each vertex below v a corner is kept, and its corners are counted
pub record Marked (vert : List ℕ) (v : ℕ) (kept corners : List ℕ) : Type 0 where
  pub corner : Kept vert (length vert) kept
  pub room : v ≤ length kept
  pub tally : TalliedTo v vert corners
