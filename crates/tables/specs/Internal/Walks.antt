-- How the code checks rule 7: one corner is kept of each vertex, and the halfedges that are joined with it are counted.
use Rattle.std.specs.Prelude.{ℕ, ◌%◌, ◌≤◌, ◌<◌, ◌≡◌, List, length, get_or}
use Rattle.laws.specs.Below.{count}
use Rattle.halfedges.specs.Cage.{most_halfedges, cell}
use Rattle.tables.specs.Fans.{joined}
use Rattle.tables.specs.Ruled.{Paired}

-- what a walk by the links relies on: rule 3, whole triangles and the limit
pub record Walkable (twin : List ℕ) : Type 0 where
  pub paired : Paired twin
  pub whole : length twin % 3 ≡ 0
  pub few : length twin ≤ most_halfedges

-- how many halfedges are joined with h
unfoldable pub fan_size : List ℕ → ℕ → ℕ
fan_size twin h = count (length twin) (joined twin h)

-- h is one of v's corners
pub record Corner (vert : List ℕ) (v h : ℕ) : Type 0 where
  pub below : h < length vert
  pub leaves : cell vert h ≡ v

-- of each vertex that one of the first n halfedges leaves, a corner is kept
pub record Kept (vert : List ℕ) (n : ℕ) (kept : List ℕ) : Type 0 where
  pub each : (h : ℕ) → h < n → Corner vert (cell vert h) (get_or kept (cell vert h) 0)
