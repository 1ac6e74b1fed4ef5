-- The points in the lent table: the next level's come straight after a level's, and so all levels stand end to end.
use Rattle.std.specs.Prelude.{ℕ, suc, ◌+◌, ◌-◌, ◌*◌, ◌^◌, ◌≤◌, ◌<◌, ◌≡◌, ◌≢◌, List, ◌++◌, ℤ, length, take, drop}
use Rattle.halfedges.specs.declared.table.HalfedgeTable.{HalfedgeTable}
use Rattle.laws.specs.Below.{tabulate, end_to_end}
use Rattle.laws.specs.Internal.Steps.{steps}
use Rattle.halfedges.specs.Cage.{marker, most_halfedges, most_depth}
use Rattle.halfedges.specs.Internal.Counts.{AtMost}
use Rattle.halfedges.specs.Counts.{finer, counts_at, room_v}
use Rattle.tables.specs.Tables.{Tables, tables}
use Rattle.splitting.specs.NextLevel.{level}
use Rattle.levels.specs.Refining.{levels_end_to_end}
use Rattle.creases.specs.Creases.{creases_at}
use Rattle.points.specs.declared.weights.Weight.{Weight}
use Rattle.points.specs.NextPoints.{corners, next_points, level_points}
use Rattle.points.specs.Internal.Relied.{Relied, Known, Fourfold}
use Rattle.points.specs.Internal.Creased.{listed_after, KnownCreases}
use Rattle.points.specs.Operations.{InRange}
use Rattle.seams.specs.Internal.Seams.{seam, Seamed, Limited}
use Rattle.seams.specs.Internal.Tally.{ForTally}
use Rattle.passes.specs.declared.level.Level.{Level}

-- the points of a level with counts t that start at cell `at`
abbrev pub points_at : HalfedgeTable → ℕ → List ℤ → List ℤ
points_at t at points = take (3 * t.vertices) (drop at points)

-- where the points of the level after one at cell `at` end
abbrev pub next_end : HalfedgeTable → ℕ → ℕ
next_end t at = at + 3 * t.vertices + 3 * (t.vertices + t.edges)

-- the table with the next level's points after the level's, and everything else as it was
unfoldable pub with_next : Weight → HalfedgeTable → Tables → List ℕ → ℕ → List ℤ → List ℤ
with_next w t c creases at points =
    take (at + 3 * t.vertices) points ++ (next_points w t c creases (points_at t at points) ++ drop (next_end t at) points)

-- what the next level's points take: the tables' promise, known corners, points in range and room; and no halfedge's number is the marker
pub record Ready (own : List ℕ) (before : ℕ) (t : HalfedgeTable) (c : Tables) (at : ℕ) (points : List ℤ) : Type 0 where
  pub relied : Relied t c
  pub known : Known own c.twin c.vert t.vertices
  pub fourfold : before ≢ 0 → Fourfold before c.vert
  pub short : t.halfedges ≤ marker
  pub in_range : InRange (points_at t at points)
  pub room : next_end t at ≤ length points

-- a table that starts with these cells
abbrev pub StartsWith : {A : Type 0} → List A → List A → Type 0
StartsWith cells table = take (length cells) table ≡ cells

-- a level's tables, from cell `start` of each lent table on
abbrev pub tables_at : HalfedgeTable → ℕ → Tables → Tables
tables_at t start lent =
    tables
    (take t.halfedges (drop start lent.twin))
    (take t.halfedges (drop start lent.vert))
    (take t.halfedges (drop start lent.edge))

-- a level's next one, of those that stand in the lent tables
abbrev pub with_next_at : Weight → Level → Tables → List ℕ → List ℤ → List ℤ
with_next_at w x lent creases points = with_next w x.counts (tables_at x.counts x.start lent) creases x.at points

-- what that takes: the level's halfedges lie in each table
pub record ReadyLevel (own : List ℕ) (x : Level) (lent : Tables) (points : List ℤ) : Type 0 where
  pub in_twin : x.start + x.counts.halfedges ≤ length lent.twin
  pub in_vert : x.start + x.counts.halfedges ≤ length lent.vert
  pub in_edge : x.start + x.counts.halfedges ≤ length lent.edge
  pub ready : Ready own x.before x.counts (tables_at x.counts x.start lent) x.at points

-- "level 0 is the cage"
abbrev pub cage_of : HalfedgeTable → Tables → Tables
cage_of t lent = tables_at t 0 lent

-- what the fifth pass leaves of a level's points and the next level's, where the cage's vertices have so many creases at that level
unfoldable pub with_seams : List ℕ → List ℕ → Level → Tables → List ℤ → List ℤ
with_seams creases counts x lent points =
    let c = tables_at x.counts x.start lent in
    let own = drop x.at points in
    take x.at points
    ++ steps (length c.vert) (seam creases x.number counts c.vert c.edge x.counts.vertices own) own

-- what that takes: the level's halfedges and points lie in the tables
pub record ReadySeams (creases : List ℕ) (x : Level) (lent : Tables) (points : List ℤ) : Type 0 where
  pub in_twin : x.start + x.counts.halfedges ≤ length lent.twin
  pub in_vert : x.start + x.counts.halfedges ≤ length lent.vert
  pub in_edge : x.start + x.counts.halfedges ≤ length lent.edge
  pub in_points : x.at ≤ length points
  pub limited : Limited creases x.number
  pub seamed :
      Seamed (tables_at x.counts x.start lent).vert (tables_at x.counts x.start lent).edge x.counts.vertices
      (drop x.at points)

-- and what counting the creases of the cage's vertices takes
pub record ReadyCount (t : HalfedgeTable) (creases : List ℕ) (lent : Tables) : Type 0 where
  pub in_twin : t.halfedges ≤ length lent.twin
  pub in_vert : t.halfedges ≤ length lent.vert
  pub in_edge : t.halfedges ≤ length lent.edge
  pub few : t.vertices ≤ most_halfedges
  pub cage : ForTally (cage_of t lent) creases

-- the next level's points with the level's creases, of a cage with counts t
pub record ReadyCreased (own : List ℕ) (t : HalfedgeTable) (creases : List ℕ) (x : Level) (lent : Tables) (points : List ℤ) : Type 0 where
  pub level : ReadyLevel own x lent points
  pub limited : Limited creases x.number
  pub count : ReadyCount t creases lent
  pub known :
      KnownCreases (listed_after x.number (cage_of t lent) creases t.vertices) (tables_at x.counts x.start lent)
      (creases_at t creases x.number)

-- the cage, with so many levels after it
abbrev pub cage_level : HalfedgeTable → ℕ → Level
cage_level t depth = record { number = 0; left = depth; counts = t; before = 0; start = 0; at = 0 }

-- the level after one
abbrev pub next_level : Level → Level
next_level x =
    record {
      number = x.number + 1;
      left = x.left - 1;
      counts = finer x.counts;
      before = x.counts.halfedges;
      start = x.start + x.counts.halfedges;
      at = x.at + 3 * x.counts.vertices;
    }

-- there is one, and its numbers do not wrap
pub record Climbs (x : Level) : Type 0 where
  pub some : 0 < x.left
  pub number : x.number < 2 ^ 60
  pub counts : AtMost (2 ^ 60) x.counts
  pub start : x.start + x.counts.halfedges < 2 ^ 64
  pub at : x.at + 3 * x.counts.vertices < 2 ^ 64

-- the corners of the cage's vertices
abbrev pub cage_corners : HalfedgeTable → Tables → List ℕ
cage_corners t lent = tabulate t.vertices (λ u. length (corners (cage_of t lent).vert u))

-- the levels' points end to end, of a cage whose points the table starts with
abbrev pub point_levels : Weight → HalfedgeTable → Tables → List ℕ → List ℤ → ℕ → List ℤ
point_levels w t lent creases points n = end_to_end n (level_points w t (cage_of t lent) creases (take (3 * t.vertices) points))

-- the table with levels 0 to the depth; "What lies past that is untouched"
unfoldable pub with_levels : Weight → HalfedgeTable → ℕ → Tables → List ℕ → List ℤ → List ℤ
with_levels w t depth lent creases points =
    point_levels w t lent creases points (suc depth) ++ drop (length (point_levels w t lent creases points (suc depth))) points

-- what that takes: within the limits, three tables that hold the levels end to end, each with its promise, the cage's creases, a cage in
-- range, and room
pub record ReadyLevels (t : HalfedgeTable) (depth : ℕ) (lent : Tables) (creases : List ℕ) (points : List ℤ) : Type 0 where
  pub counts : AtMost most_halfedges t
  pub deep : depth ≤ most_depth
  pub cage_long : t.halfedges ≤ length lent.vert
  pub twins : StartsWith (levels_end_to_end t (cage_of t lent) depth).twin lent.twin
  pub verts : StartsWith (levels_end_to_end t (cage_of t lent) depth).vert lent.vert
  pub edges : StartsWith (levels_end_to_end t (cage_of t lent) depth).edge lent.edge
  pub relied : (d : ℕ) → d < depth → Relied (counts_at t d) (level t (cage_of t lent) d)
  pub known :
      (d : ℕ) → d < depth
      → Known (cage_corners t lent) (level t (cage_of t lent) d).twin (level t (cage_of t lent) d).vert (counts_at t d).vertices
  pub numbered : length creases ≡ t.edges
  pub creased :
      (d : ℕ) → d < depth
      → KnownCreases (listed_after d (cage_of t lent) creases t.vertices) (level t (cage_of t lent) d) (creases_at t creases d)
  pub in_range : InRange (take (3 * t.vertices) points)
  pub room : 3 * room_v t depth ≤ length points
