-- What the point rules rely on of a level's tables. It follows from rules 1 and 3 to 7, and from the limits; that corners are
-- known, from demand 3.
use Rattle.std.specs.Prelude.{ℕ, ◌+◌, ◌*◌, ◌%◌, ◌≤◌, ◌<◌, ◌≡◌, ◌≢◌, ◌⊎◌, Bool, ◌&&◌, List, eqb, length, get_or}
use Rattle.halfedges.specs.declared.table.HalfedgeTable.{HalfedgeTable}
use Rattle.laws.specs.Below.{count}
use Rattle.halfedges.specs.Cage.{PREV, marker, cell, border}
use Rattle.tables.specs.Tables.{Tables, leaves}
use Rattle.points.specs.NextPoints.{corners, far, crease}

-- a vertex has at most as many corners as a cage of 3,072 halfedges has triangles, and keeps them
abbrev pub most_corners : ℕ
most_corners = 1024

-- what the point rules rely on of VERT, for v vertices: rules 1, 4 and 5, and the limit
pub record Cornered (vert : List ℕ) (v : ℕ) : Type 0 where
  pub whole : length vert % 3 ≡ 0
  pub below : (h : ℕ) → h < length vert → cell vert h < v
  pub some : (u : ℕ) → u < v → 0 < length (corners vert u)
  pub few : (u : ℕ) → u < v → length (corners vert u) ≤ most_corners

-- h is a border halfedge that leaves u
abbrev pub border_leaves : List ℕ → List ℕ → ℕ → ℕ → Bool
border_leaves twin vert u h = border twin h && leaves vert u h

-- h is a border halfedge that ends at u
abbrev pub border_ends : List ℕ → List ℕ → ℕ → ℕ → Bool
border_ends twin vert u h = border twin h && eqb (far vert h) u

-- h is a crease that leaves u
abbrev pub crease_leaves : Tables → List ℕ → ℕ → ℕ → Bool
crease_leaves c creases u h = crease c creases h && leaves c.vert u h

-- "its two border edges": one leaves the vertex and one ends there, by rule 7, or none does
pub record Bordered (twin vert : List ℕ) (v : ℕ) : Type 0 where
  pub long : length twin ≡ length vert
  pub one : (u : ℕ) → u < v → count (length vert) (border_leaves twin vert u) ≤ 1
  pub pair : (u : ℕ) → u < v → count (length vert) (border_ends twin vert u) ≡ count (length vert) (border_leaves twin vert u)

-- how many corners a vertex inside has: those of the cage's vertices are listed, and an added one has six
abbrev pub known_corners : List ℕ → ℕ → ℕ
known_corners own u = get_or own u 6

-- every vertex inside has its known corners, and no vertex has more
pub record Known (own twin vert : List ℕ) (v : ℕ) : Type 0 where
  pub inside : (u : ℕ) → u < v → count (length vert) (border_leaves twin vert u) ≡ 0 → length (corners vert u) ≡ known_corners own u
  pub most : (u : ℕ) → u < v → length (corners vert u) ≤ known_corners own u
  pub few : (u : ℕ) → u < v → known_corners own u ≤ most_corners
  pub fewer : length own ≤ v

-- every edge below e is carried, by a halfedge and its twin and no other: rules 1, 3 and 6
pub record Carried (twin edge : List ℕ) (e : ℕ) : Type 0 where
  pub long : length edge ≡ length twin
  pub twin_below : (h : ℕ) → h < length twin → cell twin h ≢ marker → cell twin h < length twin
  pub twin_other : (h : ℕ) → h < length twin → cell twin h ≢ marker → cell twin h ≢ h
  pub twin_same : (h : ℕ) → h < length twin → cell twin h ≢ marker → cell edge (cell twin h) ≡ cell edge h
  pub below : (h : ℕ) → h < length edge → cell edge h < e
  pub some : (i : ℕ) → i < e → (h : ℕ) × (h < length edge) × (cell edge h ≡ i)
  pub own : (g h : ℕ) → g < length edge → h < length edge → cell edge g ≡ cell edge h → (g ≡ h) ⊎ (g ≡ cell twin h)

-- what the point rules rely on of a level's tables and counts
pub record Relied (t : HalfedgeTable) (c : Tables) : Type 0 where
  pub halfedges : length c.vert ≡ t.halfedges
  pub cornered : Cornered c.vert t.vertices
  pub bordered : Bordered c.twin c.vert t.vertices
  pub carried : Carried c.twin c.edge t.edges
  pub twin_ends : (h : ℕ) → h < length c.twin → cell c.twin h ≢ marker → cell c.vert (cell c.twin h) ≡ far c.vert h

-- what is known of VERT above the cage, where the level before had so many halfedges. Each of its triangles became four: three at its
-- corners, which stand together, and past all of those the middle one, whose halfedges run back along the second ones of the three
pub record Fourfold (before : ℕ) (vert : List ℕ) : Type 0 where
  pub long : length vert ≡ 4 * before
  pub whole : before % 3 ≡ 0
  pub corner : (h : ℕ) → h < before → cell vert (3 * h + 2) ≡ cell vert (3 * PREV h + 1)
  pub from : (h : ℕ) → h < before → cell vert (3 * before + h) ≡ cell vert (3 * h + 2)
  pub end : (h : ℕ) → h < before → far vert (3 * before + h) ≡ cell vert (3 * h + 1)
