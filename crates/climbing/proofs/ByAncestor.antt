-- A level's cells by its halfedges' ancestors, of all three tables at once: `by_ancestor` of any rows, `cells-next`. Assumes nothing.
use Prim.Native.Nat.{ℕ, ◌+◌, ◌-◌, ◌*◌, ◌/◌, ◌%◌, ◌<◌}
use mathlib.Core.Path.{◌≡◌, refl, ◌∙◌}
use mathlib.Core.Bool.{Bool, true, false, cond}
use lib.Dec.{eqb, ltb}
use lib.ListN.{length}
use Rattle.laws.proofs.Tabulate.{get_d_tabulate}
use Rattle.halfedges.specs.declared.table.HalfedgeTable.{HalfedgeTable}
use Rattle.halfedges.specs.Cage.{PREV, cell, above}
use Rattle.tables.specs.Tables.{Tables}
use Rattle.tables.specs.Internal.Above.{is_above}
use Rattle.splitting.specs.NextLevel.{rows, new_twin, new_edge, new_vert, next_twins, next_edges, next_verts, next}
use Rattle.splitting.specs.Internal.InPlace.{Sound}
use Rattle.climbing.specs.declared.rows.Cells.{Cells}
use Rattle.climbing.specs.Halfedge.{cells_of}
use Rattle.climbing.specs.Internal.Climbing.{rows_of, ancestor, outer, inner, inside, child}

-- one of four by three tests, as the rows choose
abbrev choose : {A : Type 0} → Bool → Bool → Bool → A → A → A → A → A
choose b c d x y z w = cond b (cond c x (cond d y z)) w

choose_by : {A B : Type 0} (f₀ f₁ f₂ f₃ : A → B) (b c d : Bool) (x y z w : A) → choose b c d (f₀ x) (f₁ y) (f₂ z) (f₃ w) ≡ choose b c d (f₀ (choose b c d x y z w)) (f₁ (choose b c d x y z w)) (f₂ (choose b c d x y z w)) (f₃ (choose b c d x y z w))
choose_by f₀ f₁ f₂ f₃ true true d x y z w = refl
choose_by f₀ f₁ f₂ f₃ true false true x y z w = refl
choose_by f₀ f₁ f₂ f₃ true false false x y z w = refl
choose_by f₀ f₁ f₂ f₃ false c d x y z w = refl

choose_same : {A : Type 0} (b c d : Bool) (x : A) → choose b c d x x x x ≡ x
choose_same true true d x = refl
choose_same true false true x = refl
choose_same true false false x = refl
choose_same false c d x = refl

-- a row looks at one halfedge of the level before, whatever it makes of that
by_ancestor : {A : Type 0} (n : ℕ) (f₀ f₁ f₂ f₃ : ℕ → ℕ → A) (k : ℕ) → rows_of n (λ h. f₀ h h) (λ h. f₁ h h) (λ h. f₂ h (PREV h)) (λ h. f₃ h (PREV h)) k ≡ rows_of n (λ h. f₀ h (ancestor n k)) (λ h. f₁ h (ancestor n k)) (λ h. f₂ h (ancestor n k)) (λ h. f₃ h (ancestor n k)) k
unfolding rows rows_of ancestor
by_ancestor n f₀ f₁ f₂ f₃ k =
    choose_by
    (f₀ (k / 3)) (f₁ (k / 3)) (f₂ (k / 3)) (f₃ (k - 3 * n))
    (ltb k (3 * n)) (eqb (k % 3) 0) (eqb (k % 3) 1)
    (k / 3) (k / 3) (PREV (k / 3)) (PREV (k - 3 * n))

-- a part of what stands in the rows, row by row
part_of_rows : {A : Type 0} (part : A → ℕ) (n : ℕ) (r₀ r₁ r₂ r₃ : ℕ → A) (k : ℕ) → rows n (λ h. part (r₀ h)) (λ h. part (r₁ h)) (λ h. part (r₂ h)) (λ h. part (r₃ h)) k ≡ part (rows_of n r₀ r₁ r₂ r₃ k)
unfolding rows rows_of
part_of_rows part n r₀ r₁ r₂ r₃ k =
    choose_by
    part part part part
    (ltb k (3 * n)) (eqb (k % 3) 0) (eqb (k % 3) 1)
    (r₀ (k / 3)) (r₁ (k / 3)) (r₂ (k / 3)) (r₃ (k - 3 * n))
    ∙ choose_same (ltb k (3 * n)) (eqb (k % 3) 0) (eqb (k % 3) 1) (part (rows_of n r₀ r₁ r₂ r₃ k))

module _ (t : HalfedgeTable) (c : Tables) (s : Sound t c) (k : ℕ) (l : k < 4 * t.halfedges) where
  -- the rows of the three tables together
  abbrev out : ℕ → ℕ → Cells
  out h a = outer (cells_of c a) (is_above (cell c.twin a) a)

  abbrev across : ℕ → ℕ → Cells
  across h a = inside t (cells_of c a) (3 * t.halfedges + h) h

  abbrev home : ℕ → ℕ → Cells
  home h a = inner (cells_of c a) (is_above (cell c.twin a) a) t.vertices

  abbrev middle : ℕ → ℕ → Cells
  middle h a = inside t (cells_of c a) (3 * h + 1) h

  abbrev new : Cells
  new = rows_of t.halfedges (λ h. out h h) (λ h. across h h) (λ h. home h (PREV h)) (λ h. middle h (PREV h)) k

  twin_is : cell (next_twins c.twin) k ≡ new.twin
  unfolding next_twins new_twin
  twin_is =
      get_d_tabulate (4 * length c.twin) (new_twin c.twin) k 0 (rw s.twin_long l)
      ∙ rw s.twin_long (part_of_rows (λ (x : Cells). x.twin) t.halfedges _ _ _ _ k)

  vert_is : cell (next_verts c.vert c.edge t.vertices) k ≡ new.vert
  unfolding next_verts new_vert
  vert_is =
      get_d_tabulate (4 * length c.vert) (new_vert c.vert c.edge t.vertices) k 0 (rw s.vert_long l)
      ∙ rw s.vert_long (part_of_rows (λ (x : Cells). x.vert) t.halfedges _ _ _ _ k)

  edge_is : cell (next_edges c.twin c.edge t.edges) k ≡ new.edge
  unfolding next_edges new_edge above
  edge_is =
      get_d_tabulate (4 * length c.edge) (new_edge c.twin c.edge t.edges) k 0 (rw s.edge_long l)
      ∙ rw s.edge_long (part_of_rows (λ (x : Cells). x.edge) t.halfedges _ _ _ _ k)

  pub cells-next : cells_of (next t c) k ≡ child t k (ancestor t.halfedges k) (cells_of c (ancestor t.halfedges k))
  unfolding child
  cells-next = (λ i. record { twin = twin_is i; vert = vert_is i; edge = edge_is i }) ∙ by_ancestor t.halfedges out across home middle k
