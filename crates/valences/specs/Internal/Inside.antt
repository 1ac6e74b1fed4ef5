-- How the code counts the corners of the vertices inside.
use Rattle.std.specs.Prelude.{ℕ, ◌%◌, ◌≤◌, ◌<◌, ◌≡◌, cond, List, length, get_or}
use Rattle.laws.specs.Below.{any}
use Rattle.halfedges.specs.Cage.{most_halfedges, most_vertices, cell}
use Rattle.points.specs.NextPoints.{corners}
use Rattle.points.specs.Operations.{border_at, on_border}

-- for rule 14: rules 1, 2 and 4
pub record ForValences (twin vert : List ℕ) (v : ℕ) : Type 0 where
  pub long : length twin ≡ length vert
  pub whole : length vert % 3 ≡ 0
  pub few : length vert ≤ most_halfedges
  pub room : v ≤ most_vertices
  pub below : (h : ℕ) → h < length vert → cell vert h < v

-- a tally whose cells are 0 where halfedge h has no twin and leaves that vertex or ends there, and else are what they were
pub record ClearedAt (twin vert : List ℕ) (h : ℕ) (before tally : List ℕ) : Type 0 where
  pub each : (x : ℕ) → x < length before → get_or tally x 0 ≡ cond (border_at twin vert x h) 0 (get_or before x 0)

-- the same of the first n halfedges
pub record Cleared (twin vert : List ℕ) (n : ℕ) (before tally : List ℕ) : Type 0 where
  pub each : (x : ℕ) → x < length before → get_or tally x 0 ≡ cond (any n (border_at twin vert x)) 0 (get_or before x 0)

-- each vertex below v has a cell with its corners, 0 where it lies on a border
pub record CountedInside (twin vert : List ℕ) (v : ℕ) (tally : List ℕ) : Type 0 where
  pub room : v ≤ length tally
  pub each : (x : ℕ) → x < v → get_or tally x 0 ≡ cond (on_border twin vert x) 0 (length (corners vert x))
