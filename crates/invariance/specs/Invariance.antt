-- Demand 3, of the tables: what the level at every depth keeps of the cage. All is counted from the tables.
use Rattle.std.specs.Prelude.{ℕ, suc, ◌+◌, ◌*◌, ◌^◌, ◌≤◌, ◌<◌, ◌≡◌, ◌⊎◌, not, List, length}
use Rattle.laws.specs.Below.{sum, count, any}
use Rattle.halfedges.specs.declared.table.HalfedgeTable.{HalfedgeTable}
use Rattle.halfedges.specs.Cage.{NEXT, F, marker, cell, E, B}
use Rattle.halfedges.specs.Refusals.{DONE, first}
use Rattle.halfedges.specs.Counts.{Hs, Es, Vs, room_h, room_v}
use Rattle.tables.specs.Tables.{Tables, leaves}
use Rattle.tables.specs.Ruled.{Shaped, Ruled}
use Rattle.splitting.specs.NextLevel.{level}
use Rattle.tables.specs.Check.{rules}

-- the vertices in a VERT table: a vertex is counted at the lowest halfedge that leaves it
unfoldable pub vertices_in : List ℕ → ℕ
vertices_in vert = count (length vert) (λ h. not (any h (leaves vert (cell vert h))))

-- the corners at a vertex
unfoldable pub corners_at : Tables → ℕ → ℕ
corners_at c u = count (length c.twin) (leaves c.vert u)

-- a halfedge without twin leaves u or ends there
abbrev pub OnBorder : Tables → ℕ → Type 0
OnBorder c u = (h : ℕ) × (h < length c.twin) × (cell c.twin h ≡ marker) × ((cell c.vert h ≡ u) ⊎ (cell c.vert (NEXT h) ≡ u))

-- "added ones have six corners inside or three on a border"
pub record Added (c : Tables) (u : ℕ) : Type 0 where
  pub inside : ¬ OnBorder c u → corners_at c u ≡ 6
  pub on_border : OnBorder c u → corners_at c u ≡ 3

-- level d of a cage c with counts t
pub record Invariant (t : HalfedgeTable) (c : Tables) (d : ℕ) : Type 0 where
  -- "at every depth the tables pass the same cage rules"
  pub passes : first (rules (level t c d) (Vs t d)) ≡ DONE
  pub shaped : Shaped (level t c d)
  pub ruled : Ruled (level t c d) (Vs t d)
  -- "halfedges are 4^d times the cage's"
  pub halfedges : length (level t c d).twin ≡ 4 ^ d * length c.twin
  -- "border edges double"
  pub border_edges : B (level t c d).twin ≡ 2 ^ d * B c.twin
  -- "V−E+F never changes"
  pub characteristic :
      vertices_in (level t c d).vert + F (length (level t c d).twin) + E c.twin
      ≡ vertices_in c.vert + F (length c.twin) + E (level t c d).twin
  -- the counts that are quoted are those of the tables
  pub quoted_halfedges : Hs t d ≡ length (level t c d).twin
  pub quoted_edges : Es t d ≡ E (level t c d).twin
  pub quoted_vertices : Vs t d ≡ vertices_in (level t c d).vert
  -- "cage vertices keep their corner count"
  pub cage_corners : (u : ℕ) → u < Vs t 0 → corners_at (level t c d) u ≡ corners_at c u
  pub added_corners : (u : ℕ) → Vs t 0 ≤ u → u < Vs t d → Added (level t c d) u
  -- "the quoted room is the sums from level 0"
  pub halfedge_room : room_h t d ≡ sum (suc d) (λ k. length (level t c k).twin)
  pub vertex_room : room_v t d ≡ sum (suc d) (λ k. vertices_in (level t c k).vert)
