-- A halfedge by its ancestor: the rows, each by the one halfedge of the level before that it looks at.
use Rattle.std.specs.Prelude.{ℕ, ◌+◌, ◌-◌, ◌*◌, ◌/◌, ◌%◌, ◌≤◌, ◌<◌, Bool, cond, eqb, ltb, length}
use Rattle.halfedges.specs.declared.table.HalfedgeTable.{HalfedgeTable}
use Rattle.halfedges.specs.Cage.{PREV, most_halfedges, most_depth}
use Rattle.halfedges.specs.Internal.Counts.{AtMost}
use Rattle.tables.specs.Tables.{Tables}
use Rattle.tables.specs.Internal.Above.{is_above}
use Rattle.splitting.specs.NextLevel.{rows}
use Rattle.splitting.specs.Internal.InPlace.{outer_twin, inner_twin, first_half, second_half, SmallTwin, SmallEdge, Sound}
use Rattle.climbing.specs.declared.rows.Cells.{Cells}

-- the rows of document 01's table, of values of any kind: `rows` is this of numbers
unfoldable pub rows_of : {A : Type 0} → ℕ → (ℕ → A) → (ℕ → A) → (ℕ → A) → (ℕ → A) → ℕ → A
rows_of H r₀ r₁ r₂ r₃ k =
    cond (ltb k (3 * H))
    (cond (eqb (k % 3) 0) (r₀ (k / 3)) (cond (eqb (k % 3) 1) (r₁ (k / 3)) (r₂ (k / 3))))
    (r₃ (k - 3 * H))

-- which halfedge of n the new one k looks at: h in the rows 3h and 3h+1, h' in 3h+2 and 3H+h
unfoldable pub ancestor : ℕ → ℕ → ℕ
ancestor n = rows n (λ h. h) (λ h. h) PREV PREV

-- what the rows make of what an old halfedge has, x: its half from its vertex on, the half after that, and what lies across its triangle
abbrev pub outer : Cells → Bool → Cells
outer x up = record { twin = outer_twin x.twin; vert = x.vert; edge = first_half x.edge up }

abbrev pub inner : Cells → Bool → ℕ → Cells
inner x up v = record { twin = inner_twin x.twin; vert = v + x.edge; edge = second_half x.edge up }

abbrev pub inside : HalfedgeTable → Cells → ℕ → ℕ → Cells
inside t x twin h = record { twin = twin; vert = t.vertices + x.edge; edge = 2 * t.edges + h }

-- what new halfedge k has, by what its ancestor a has, where t counts the level before
unfoldable pub child : HalfedgeTable → ℕ → ℕ → Cells → Cells
child t k a x =
    rows_of t.halfedges
    (λ h. outer x (is_above x.twin a))
    (λ h. inside t x (3 * t.halfedges + h) h)
    (λ h. inner x (is_above x.twin a) t.vertices)
    (λ h. inside t x (3 * h + 1) h)
    k

-- small enough that the next level's fit
pub record SmallCells (x : Cells) : Type 0 where
  pub twin : SmallTwin x.twin
  pub edge : SmallEdge x.edge

-- the three tables have a halfedge
pub record InTables (h : ℕ) (c : Tables) : Type 0 where
  pub twin : h < length c.twin
  pub vert : h < length c.vert
  pub edge : h < length c.edge

-- what 1 to 7 leave of a cage with counts t and of a depth
pub record Climbable (t : HalfedgeTable) (depth : ℕ) (c : Tables) : Type 0 where
  pub sound : Sound t c
  pub small : AtMost most_halfedges t
  pub shallow : depth ≤ most_depth
