-- What checking and writing the tables that are built rely on, and which of all checks are left for them.
use Rattle.std.specs.Prelude.{ℕ, ◌≤◌, ◌≡◌, List, ℤ, length, drop}
use Rattle.halfedges.specs.Cage.{most_halfedges, most_vertices}
use Rattle.halfedges.specs.Refusals.{Verdict}
use Rattle.tables.specs.Ruled.{Paired}
use Rattle.triangles.specs.Plain.{Undoubled, twin_table}
use Rattle.triangles.specs.Internal.Joining.{Whole}
use Rattle.building.specs.Building.{build_checks}

-- TWIN is built from VERT, which passes 1, 2 and 13
pub record Twinned (twin vert : List ℕ) (v : ℕ) : Type 0 where
  pub built : twin ≡ twin_table vert
  pub undoubled : Undoubled vert
  pub whole : Whole vert
  pub few : v ≤ most_vertices

-- TWIN keeps rule 3 and the limit, and both lent tables have its room
pub record Writable (twin lentTwin lentEdge : List ℕ) : Type 0 where
  pub paired : Paired twin
  pub few : length twin ≤ most_halfedges
  pub twin_room : length twin ≤ length lentTwin
  pub edge_room : length twin ≤ length lentEdge

-- 4, 5, 7 and 8
unfoldable pub built_checks : List ℕ → List ℤ → List Verdict
built_checks vert points = drop 3 (build_checks vert points)
