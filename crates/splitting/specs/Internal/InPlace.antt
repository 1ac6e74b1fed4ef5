-- How the code writes a level: straight after the one before it, in the same tables. Only contracts between functions cite
-- these; the promises of the public operations, in Operations, do not.
use Rattle.std.specs.Prelude.{ℕ, ◌+◌, ◌*◌, ◌/◌, ◌%◌, ◌≤◌, ◌<◌, ◌≡◌, ◌≢◌, Bool, cond, List, ◌++◌, eqb, length, take, drop, set}
use Rattle.halfedges.specs.declared.table.HalfedgeTable.{HalfedgeTable}
use Rattle.splitting.specs.declared.above.Known.{Known}
use Rattle.splitting.specs.declared.halves.Halves.{Halves}
use Rattle.splitting.specs.declared.halves.Three.{Three}
use Rattle.splitting.specs.declared.split.Above.{Above}
use Rattle.splitting.specs.declared.split.Split.{Split}
use Rattle.laws.specs.Internal.Parts.{part}
use Rattle.halfedges.specs.Cage.{NEXT, marker, cell}
use Rattle.halfedges.specs.Internal.Counts.{AtMost}
use Rattle.tables.specs.Tables.{Tables, tables}
use Rattle.splitting.specs.NextLevel.{next_twins, next_edges, next_verts}

-- the level of t's size from an offset on
abbrev pub level_at : HalfedgeTable → ℕ → Tables → Tables
level_at t at x = tables (part x.twin at t.halfedges) (part x.vert at t.halfedges) (part x.edge at t.halfedges)

-- a table with the next level's cells after those of a level of n halfedges
abbrev pub with_next : List ℕ → ℕ → ℕ → List ℕ → List ℕ
with_next xs at n cells = take (at + n) xs ++ (cells ++ drop (at + 5 * n) xs)

-- TWIN, VERT and EDGE with the next level's cells after those of the level that stands at an offset
abbrev pub with_next_twins : List ℕ → ℕ → HalfedgeTable → List ℕ
with_next_twins twin at t = with_next twin at t.halfedges (next_twins (part twin at t.halfedges))

abbrev pub with_next_verts : List ℕ → List ℕ → ℕ → HalfedgeTable → List ℕ
with_next_verts vert edge at t =
    with_next vert at t.halfedges (next_verts (part vert at t.halfedges) (part edge at t.halfedges) t.vertices)

abbrev pub with_next_edges : List ℕ → List ℕ → ℕ → HalfedgeTable → List ℕ
with_next_edges edge twin at t =
    with_next edge at t.halfedges (next_edges (part twin at t.halfedges) (part edge at t.halfedges) t.edges)

-- the three tables with the next level's cells after those of a level
unfoldable pub with_next_level : HalfedgeTable → ℕ → Tables → Tables
with_next_level t at x =
    tables (with_next_twins x.twin at t) (with_next_verts x.vert x.edge at t) (with_next_edges x.edge x.twin at t)

-- what a triangle's halfedges h, h+1 and h+2 have
abbrev pub trio : (ℕ → ℕ) → ℕ → Three
trio f h = (f h, f (h + 1), f (h + 2))

-- the same in a table, of the level that stands at an offset
abbrev pub cells_at : List ℕ → ℕ → ℕ → Three
cells_at table at = trio (λ h. cell table (at + h))

-- what holds of each of the three
abbrev pub EachOf : (ℕ → Type 0) → Three → Type 0
EachOf P c = P c.0 × P c.1 × P c.2

-- "3·NEXT(t)+2" and "3·t'", where there is a twin
abbrev pub outer_twin : ℕ → ℕ
outer_twin t = cond (eqb t marker) marker (3 * NEXT t + 2)

abbrev pub inner_twin : ℕ → ℕ
inner_twin t = cond (eqb t marker) marker (3 * t)

-- both: the twins of the halves of t's twin
abbrev pub twin_halves : ℕ → Halves
twin_halves t = (outer_twin t, inner_twin t)

-- "2·EDGE(h), plus 0 if h > t else 1" and "2·EDGE(h'), plus 1 if h' > t' else 0"
abbrev pub first_half : ℕ → Bool → ℕ
first_half e up = 2 * e + cond up 0 1

abbrev pub second_half : ℕ → Bool → ℕ
second_half e up = 2 * e + cond up 1 0

-- the two halves of an edge
abbrev pub edge_halves : ℕ → Bool → Halves
edge_halves e up = (first_half e up, second_half e up)

-- the four triangles that one is split into, in any table: from the halves a, b and c of its halfedges, the new halfedges across
-- its corners and those of the middle triangle
unfoldable pub joined : Halves → Halves → Halves → Three → Three → Split
joined a b c across middle =
    record { first = (a.0, across.0, c.1); second = (b.0, across.1, a.1); third = (c.0, across.2, b.1); middle = middle }

-- TWIN of the four, from the twins of the halves, where h is the triangle's first halfedge
unfoldable pub join_twins : Halves → Halves → Halves → ℕ → ℕ → Split
join_twins a b c n h = joined a b c (trio (λ k. 3 * n + k) h) (trio (λ k. 3 * k + 1) h)

-- TWIN of the four, from the triangle's twins
unfoldable pub split_twins : Three → ℕ → ℕ → Split
split_twins twins n h = join_twins (twin_halves twins.0) (twin_halves twins.1) (twin_halves twins.2) n h

-- VERT of the four, from the triangle's corners and edges
unfoldable pub split_verts : Three → Three → ℕ → Split
split_verts verts edges v =
    let a = v + edges.0 in
    let b = v + edges.1 in
    let c = v + edges.2 in
    joined (verts.0, a) (verts.1, b) (verts.2, c) (a, b, c) (c, a, b)

-- EDGE of the four, from the triangle's edges and which of its halfedges are above their twins
unfoldable pub split_edges : Three → Above → ℕ → ℕ → Split
split_edges edges up e h =
    joined
    (edge_halves edges.0 up.0) (edge_halves edges.1 up.1) (edge_halves edges.2 up.2)
    (trio (λ k. 2 * e + k) h) (trio (λ k. 2 * e + k) h)

-- three cells together
unfoldable pub set_three : List ℕ → ℕ → Three → List ℕ
set_three xs k c = set (set (set xs k c.0) (k + 1) c.1) (k + 2) c.2

-- a triangle's split in the next level, straight after the level of n halfedges that stands at an offset
unfoldable pub set_split : List ℕ → ℕ → ℕ → ℕ → Split → List ℕ
set_split xs at n h s =
    let a = set_three xs (at + n + 3 * h) s.first in
    let b = set_three a (at + n + 3 * h + 3) s.second in
    let c = set_three b (at + n + 3 * h + 6) s.third in
    set_three c (at + n + (3 * n + h)) s.middle

-- the split of the triangle at h in TWIN, and in EDGE
abbrev pub with_split : List ℕ → ℕ → ℕ → ℕ → List ℕ
with_split twin at n h = set_split twin at n h (split_twins (cells_at twin at h) n h)

abbrev pub with_split_edges : List ℕ → ℕ → HalfedgeTable → ℕ → Above → List ℕ
with_split_edges edge at t h up = set_split edge at t.halfedges h (split_edges (cells_at edge at h) up t.edges h)

-- what H, E and V of a small level are at most: no level that is refined has more, and the numbers of the one after it fit a cell
abbrev pub most_small : ℕ
most_small = 4194304

-- what a level must have for its next one to be written: less than the rules leave
pub record Sound (t : HalfedgeTable) (c : Tables) : Type 0 where
  pub twin_long : length c.twin ≡ t.halfedges
  pub vert_long : length c.vert ≡ t.halfedges
  pub edge_long : length c.edge ≡ t.halfedges
  pub whole : t.halfedges % 3 ≡ 0
  pub few_edges : t.edges ≤ t.halfedges
  pub twin_below : (h : ℕ) → h < t.halfedges → cell c.twin h ≢ marker → cell c.twin h < t.halfedges
  pub edge_below : (h : ℕ) → h < t.halfedges → cell c.edge h < t.edges

-- a table has room for a small level at an offset, and for the next one
pub record Housed (t : HalfedgeTable) (at : ℕ) (xs : List ℕ) : Type 0 where
  pub small : AtMost most_small t
  pub whole : t.halfedges % 3 ≡ 0
  pub room : at + 5 * t.halfedges ≤ length xs

-- a twin and an edge, all twins of a level and all its edges are small
abbrev pub SmallTwin : ℕ → Type 0
SmallTwin t = t ≢ marker → t < most_small

abbrev pub SmallEdge : ℕ → Type 0
SmallEdge e = e < most_small

abbrev pub SmallTwins : HalfedgeTable → ℕ → List ℕ → Type 0
SmallTwins t at twin = (h : ℕ) → h < t.halfedges → SmallTwin (cell twin (at + h))

abbrev pub SmallEdges : HalfedgeTable → ℕ → List ℕ → Type 0
SmallEdges t at edge = (h : ℕ) → h < t.halfedges → SmallEdge (cell edge (at + h))

-- a triangle of a small level at an offset, with room for its split
pub record Fits (n at h : ℕ) (xs : List ℕ) : Type 0 where
  pub small : n ≤ most_small
  pub within : h + 3 ≤ n
  pub room : at + 5 * n ≤ length xs

-- a small twin whose NEXT is known
abbrev pub KnownNext : ℕ → ℕ → Type 0
KnownNext t next = t ≢ marker → (t < most_small) × (next ≡ NEXT t)

-- a small twin that leaves r by 3: which of its triangle's three it is
abbrev pub Leaving : ℕ → ℕ → Type 0
Leaving r t = t ≢ marker → (t < most_small) × (t % 3 ≡ r)

-- the twins of a corner triangle, of which the one across is known, and its NEXT
pub record CornerTriangle (twins : Three) (across : Known) : Type 0 where
  pub first : Leaving 2 twins.0
  pub second : twins.1 ≡ across.0
  pub third : Leaving 0 twins.2
  pub small : across.0 < most_small
  pub known : across.1 ≡ NEXT across.0

-- the twins of a middle triangle: those across from it in three corner triangles one after the other
pub record MiddleTriangle (twins : Three) (across : ℕ) : Type 0 where
  pub first : twins.0 ≡ across
  pub second : twins.1 ≡ across + 3
  pub third : twins.2 ≡ across + 6
  pub small : across + 6 < most_small
  pub leaving : across % 3 ≡ 1

-- TWIN of a level above the cage, by the rows that made it from the level before, which has a quarter of its halfedges
pub record Descended (t : HalfedgeTable) (at : ℕ) (twin : List ℕ) : Type 0 where
  pub four : t.halfedges % 4 ≡ 0
  pub corner : (h : ℕ) → h < t.halfedges / 4 → cell twin (at + 3 * h) ≢ marker → cell twin (at + 3 * h) % 3 ≡ 2
  pub across : (h : ℕ) → h < t.halfedges / 4 → cell twin (at + (3 * h + 1)) ≡ 3 * (t.halfedges / 4) + h
  pub back : (h : ℕ) → h < t.halfedges / 4 → cell twin (at + (3 * h + 2)) ≢ marker → cell twin (at + (3 * h + 2)) % 3 ≡ 0
  pub middle : (h : ℕ) → h < t.halfedges / 4 → cell twin (at + (3 * (t.halfedges / 4) + h)) ≡ 3 * h + 1

-- only the cage stands at the start of the tables
abbrev pub CageOrDescended : HalfedgeTable → ℕ → List ℕ → Type 0
CageOrDescended t at twin = at ≢ 0 → Descended t at twin

-- a level stands in the tables, with room for the next one
pub record Standing (t : HalfedgeTable) (at : ℕ) (x : Tables) : Type 0 where
  pub twin : Housed t at x.twin
  pub vert : Housed t at x.vert
  pub edge : Housed t at x.edge
  pub twins : SmallTwins t at x.twin
  pub rows : CageOrDescended t at x.twin
  pub edges : SmallEdges t at x.edge
