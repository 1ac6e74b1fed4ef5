-- How the code counts the creases of the cage's vertices.
use Rattle.std.specs.Prelude.{ℕ, ◌+◌, ◌*◌, ◌%◌, ◌≤◌, ◌<◌, ◌≡◌, Bool, cond, ◌&&◌, List, eqb, length}
use Rattle.laws.specs.Below.{count}
use Rattle.halfedges.specs.Cage.{most_halfedges, cell}
use Rattle.tables.specs.Tables.{Tables, leaves}
use Rattle.points.specs.NextPoints.{far}
use Rattle.points.specs.Internal.Relied.{border_ends}
use Rattle.points.specs.Internal.Creased.{crease_after, creases_after}

-- what the count relies on: rules 1 and 2, and a number for the edge of each halfedge, by rule 6
pub record ForTally (c : Tables) (creases : List ℕ) : Type 0 where
  pub whole : length c.vert % 3 ≡ 0
  pub twin_long : length c.twin ≡ length c.vert
  pub edge_long : length c.edge ≡ length c.vert
  pub few : length c.vert ≤ most_halfedges
  pub numbered : (h : ℕ) → h < length c.vert → cell c.edge h < length creases

-- h is a crease that leaves u, d levels on
abbrev pub leaves_after : ℕ → Tables → List ℕ → ℕ → ℕ → Bool
leaves_after d c creases u h = crease_after d c creases h && leaves c.vert u h

-- each cell u says how many creases u has among the first n halfedges
pub record CreasesTallied (n d : ℕ) (c : Tables) (creases counts : List ℕ) : Type 0 where
  pub each :
      (u : ℕ) → u < length counts
      → cell counts u ≡ count n (leaves_after d c creases u) + count n (border_ends c.twin c.vert u)

-- no count is large
abbrev pub FewCounted : List ℕ → Type 0
FewCounted counts = (u : ℕ) → u < length counts → cell counts u ≤ 2 * most_halfedges

-- one more at each end of halfedge h
pub record EndsAdded (vert : List ℕ) (h : ℕ) (before counts : List ℕ) : Type 0 where
  pub each :
      (u : ℕ) → u < length before
      → cell counts u ≡ cell before u + cond (leaves vert u h) 1 0 + cond (eqb (far vert h) u) 1 0

-- what halfedge h adds
pub record CreasesAdded (h d : ℕ) (c : Tables) (creases before counts : List ℕ) : Type 0 where
  pub each :
      (u : ℕ) → u < length before
      → cell counts u ≡ cell before u + cond (leaves_after d c creases u h) 1 0 + cond (border_ends c.twin c.vert u h) 1 0

-- each cell u says how many creases u has
pub record CreasesCounted (d : ℕ) (c : Tables) (creases counts : List ℕ) : Type 0 where
  pub each : (u : ℕ) → u < length counts → cell counts u ≡ creases_after d c creases u
