-- Document 01, "Why a cage is sent back", in plain words: what each rule leaves of the tables where it is not given.
use Rattle.std.specs.Prelude.{ℕ, ◌%◌, ◌<◌, ◌≡◌, ◌≢◌, ◌⊎◌, List, length}
use Rattle.halfedges.specs.Cage.{NEXT, marker, cell, E}
use Rattle.tables.specs.Tables.{Tables}
use Rattle.tables.specs.Fans.{Joined}

-- 1
pub record Shaped (c : Tables) : Type 0 where
  pub some : 0 < length c.twin
  pub whole : length c.twin % 3 ≡ 0
  pub vert_long : length c.vert ≡ length c.twin
  pub edge_long : length c.edge ≡ length c.twin

-- 3
pub record Paired (twin : List ℕ) : Type 0 where
  pub below : (h : ℕ) → h < length twin → cell twin h ≢ marker → cell twin h < length twin
  pub other : (h : ℕ) → h < length twin → cell twin h ≢ marker → cell twin h ≢ h
  pub back : (h : ℕ) → h < length twin → cell twin h ≢ marker → cell twin (cell twin h) ≡ h

-- 4
pub record Placed (twin vert : List ℕ) (v : ℕ) : Type 0 where
  pub below : (h : ℕ) → h < length twin → cell vert h < v
  pub ends : (h : ℕ) → h < length twin → cell vert h ≢ cell vert (NEXT h)
  pub twin_ends : (h : ℕ) → h < length twin → cell twin h ≢ marker → cell vert (cell twin h) ≡ cell vert (NEXT h)

-- 5
pub record Used (vert : List ℕ) (v : ℕ) : Type 0 where
  pub corner : (u : ℕ) → u < v → (h : ℕ) × (h < length vert) × (cell vert h ≡ u)

-- 6
pub record Numbered (twin edge : List ℕ) : Type 0 where
  pub below : (h : ℕ) → h < length twin → cell edge h < E twin
  pub twin_same : (h : ℕ) → h < length twin → cell twin h ≢ marker → cell edge (cell twin h) ≡ cell edge h
  pub own : (g h : ℕ) → g < length twin → h < length twin → cell edge g ≡ cell edge h → (g ≡ h) ⊎ (g ≡ cell twin h)

-- 7
pub record Fanned (twin vert : List ℕ) : Type 0 where
  pub one : (g h : ℕ) → g < length vert → h < length vert → cell vert g ≡ cell vert h → Joined twin g h

-- 3 to 7
pub record Ruled (c : Tables) (v : ℕ) : Type 0 where
  pub paired : Paired c.twin
  pub placed : Placed c.twin c.vert v
  pub used : Used c.vert v
  pub numbered : Numbered c.twin c.edge
  pub fanned : Fanned c.twin c.vert
