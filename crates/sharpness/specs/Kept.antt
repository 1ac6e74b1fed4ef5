-- Document 02, §6 "Edges that stay sharp", and demand 3, which reads with it: what the level at every depth keeps of the cage's creases.
use Rattle.std.specs.Prelude.{ℕ, suc, ◌+◌, ◌-◌, ◌/◌, ◌^◌, ◌≤◌, ◌<◌, ◌≡◌, ◌⊎◌, cond, ◌&&◌, ◌||◌, List, eqb, length}
use Rattle.laws.specs.Below.{sum, count}
use Rattle.halfedges.specs.declared.table.HalfedgeTable.{HalfedgeTable}
use Rattle.halfedges.specs.Cage.{marker, cell, E}
use Rattle.halfedges.specs.Refusals.{DONE, first}
use Rattle.halfedges.specs.Counts.{Es, Vs, room_e}
use Rattle.tables.specs.Tables.{Tables, leaves}
use Rattle.splitting.specs.NextLevel.{level}
use Rattle.creases.specs.Creases.{most_crease, creases_at}
use Rattle.creases.specs.Check.{creased_rules}
use Rattle.points.specs.NextPoints.{far, carrier, crease_ends}
use Rattle.points.specs.Internal.Creased.{crease_after}

-- 1 and 15 in plain words: what they leave of the crease table where they are not given
pub record Creased (c : Tables) (creases : List ℕ) : Type 0 where
  -- "a whole number 0 to 10 per edge"
  pub long : length creases ≡ E c.twin
  pub most : (e : ℕ) → e < E c.twin → cell creases e ≤ most_crease
  -- "0 on border edges"
  pub border_none : (h : ℕ) → h < length c.twin → cell c.twin h ≡ marker → cell creases (cell c.edge h) ≡ 0

-- how many edges end at vertex u that are a border or have a number above d, each counted once, by its lowest halfedge
unfoldable pub edges_after : ℕ → Tables → List ℕ → ℕ → ℕ
edges_after d c creases u =
    count (E c.twin)
    (λ e.
    let h = carrier c.edge e in
    crease_after d c creases h && (leaves c.vert u h || eqb (far c.vert h) u))

-- no creases, where a vertex is smooth, or two, where it "follows the border vertex rule along them"
abbrev pub NoneOrTwo : ℕ → Type 0
NoneOrTwo n = (n ≡ 0) ⊎ (n ≡ 2)

-- how many creases vertex u has at level d
abbrev pub creases_of : HalfedgeTable → Tables → List ℕ → ℕ → ℕ → ℕ
creases_of t c creases d u = length (crease_ends (level t c d) (creases_at t creases d) u)

-- level d of a cage c with counts t
pub record KeptCreases (t : HalfedgeTable) (c : Tables) (creases : List ℕ) (d : ℕ) : Type 0 where
  -- "at every depth the tables pass the same cage rules", the crease table among them
  pub passes : first (creased_rules (level t c d) (creases_at t creases d) (Vs t d)) ≡ DONE
  pub creased : Creased (level t c d) (creases_at t creases d)
  -- a number for each of the edges that are quoted
  pub quoted : length (creases_at t creases d) ≡ Es t d
  -- "the quoted room gains the sum of E over the levels"
  pub crease_room : room_e t d ≡ sum (suc d) (λ k. length (creases_at t creases k))
  -- "The two halves of an edge carry the number less one, never below 0": edge i lies on the cage's edge i/2^d and carries its number
  -- less d; "new edges across a triangle carry 0": there i/2^d is past the cage's edges
  pub numbers : (i : ℕ) → cell (creases_at t creases d) i ≡ cell creases (i / 2 ^ d) - d
  -- a vertex has as many creases as edges end there that are a crease
  pub counted : (u : ℕ) → creases_of t c creases d u ≡ edges_after 0 (level t c d) (creases_at t creases d) u
  -- a cage vertex has as many as cage edges end there that are a border or have a number above d
  pub cage_creases : (u : ℕ) → u < Vs t 0 → creases_of t c creases d u ≡ edges_after d c creases u
  -- the vertex of an edge of a level j below has two where that edge is still a crease d−j levels on, else none
  pub edge_creases :
      (j h : ℕ) → j < d → h < length (level t c j).twin
      → creases_of t c creases d (Vs t j + cell (level t c j).edge h)
      ≡ cond (crease_after (d - j) (level t c j) (creases_at t creases j) h) 2 0
  -- so every added vertex has none or two
  pub added_creases : (u : ℕ) → Vs t 0 ≤ u → u < Vs t d → NoneOrTwo (creases_of t c creases d u)
