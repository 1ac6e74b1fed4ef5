-- How the code checks rule 15: the border edges are marked by their halfedges.
use Rattle.std.specs.Prelude.{ℕ, ◌≤◌, ◌<◌, ◌≡◌, Bool, false, ◌&&◌, ◌||◌, List, eqb, length, get_or}
use Rattle.laws.specs.Below.{any}
use Rattle.halfedges.specs.Cage.{most_halfedges, cell, border, E}
use Rattle.creases.specs.Creases.{edge_on_border}

-- for rule 15: the limit, an edge of each halfedge, rule 6, and a number of each edge
pub record ForCreases (twin edge creases : List ℕ) : Type 0 where
  pub few : length twin ≤ most_halfedges
  pub same : length edge ≡ length twin
  pub below : (h : ℕ) → h < length edge → cell edge h < E twin
  pub long : length creases ≡ E twin

-- halfedge h has no twin and carries edge e
abbrev pub border_of : List ℕ → List ℕ → ℕ → ℕ → Bool
border_of twin edge e h = border twin h && eqb (cell edge h) e

-- each halfedge's edge has a mark
pub record Markable (twin edge : List ℕ) (marks : List Bool) : Type 0 where
  pub same : length edge ≡ length twin
  pub below : (h : ℕ) → h < length edge → cell edge h < length marks

-- halfedge h marks its edge where it has no twin; the other marks are what they were
pub record MarkedAt (twin edge : List ℕ) (h : ℕ) (before marks : List Bool) : Type 0 where
  pub each : (e : ℕ) → e < length before → get_or marks e false ≡ (get_or before e false || border_of twin edge e h)

-- the marks that the first n halfedges make
pub record MarkedTo (twin edge : List ℕ) (n : ℕ) (marks : List Bool) : Type 0 where
  pub each : (e : ℕ) → e < length marks → get_or marks e false ≡ any n (border_of twin edge e)

-- the marks are the edges on a border
pub record Marked (twin edge : List ℕ) (marks : List Bool) : Type 0 where
  pub each : (e : ℕ) → e < length marks → get_or marks e false ≡ edge_on_border twin edge e
