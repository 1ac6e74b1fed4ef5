-- Document 02, §1 "Cages as plain triangles": a cage that is built again from its own VERT and points.
use Rattle.std.specs.Prelude.{ℕ, ◌<◌, ◌≡◌, Bool, false, ◌&&◌, List, eqb, ℤ, length}
use Rattle.halfedges.specs.Cage.{cell, border}
use Rattle.halfedges.specs.Refusals.{DONE, first}
use Rattle.tables.specs.Tables.{Tables}
use Rattle.triangles.specs.Plain.{twins}
use Rattle.building.specs.Building.{built, build_checks}

-- g and h border a slit, which building closes: they have no twin, and run between the same two vertices the opposite way
abbrev pub slit : Tables → ℕ → ℕ → Bool
slit c g h = border c.twin g && border c.twin h && twins c.vert h g

-- the cage has no slit
pub record Slitless (c : Tables) : Type 0 where
  pub none : (g h : ℕ) → g < length c.twin → h < length c.twin → slit c g h ≡ false

-- g and h have the same edge
abbrev pub share : List ℕ → ℕ → ℕ → Bool
share edge g h = eqb (cell edge g) (cell edge h)

-- building takes the cage's VERT and points, gives its own TWIN back, and its own EDGE up to the numbers
pub record OwnTables (c : Tables) (points : List ℤ) : Type 0 where
  pub accepted : first (build_checks c.vert points) ≡ DONE
  pub twin : (built c.vert).twin ≡ c.twin
  pub edge : (g h : ℕ) → g < length c.twin → h < length c.twin → share (built c.vert).edge g h ≡ share c.edge g h
