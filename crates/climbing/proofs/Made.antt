-- Each outcome of `ancestor` and of `child`, by the row that the new halfedge stands in. Assumes nothing.
use Prim.Native.Nat.{ℕ, ◌+◌, ◌-◌, ◌*◌, ◌/◌, ◌%◌, ◌≤◌, ◌<◌}
use mathlib.Core.Path.{◌≡◌, sym, ap, ◌∙◌}
use mathlib.Core.Logic.{◌≢◌}
use mathlib.Core.Bool.{Bool}
use native.Mathlib.Decide.{ℕ_discrete}
use native.Mathlib.Omega.{arith}
use Rattle.halfedges.specs.declared.table.HalfedgeTable.{HalfedgeTable}
use Rattle.halfedges.specs.Cage.{PREV}
use Rattle.halfedges.proofs.Triangle.{prev_below}
use Rattle.tables.specs.Internal.Above.{is_above}
use Rattle.splitting.proofs.Rows.{corner_row, across_row, back_row, middle_row, every_row}
use Rattle.climbing.proofs.RowsOf.{corner_row_of, across_row_of, back_row_of, middle_row_of}
use Rattle.climbing.specs.declared.rows.Cells.{Cells}
use Rattle.climbing.specs.Internal.Climbing.{ancestor, outer, inner, inside, child}

module _ (n k : ℕ) where
  pub from_middle : 3 * n ≤ k → ancestor n k ≡ PREV (k - 3 * n)
  unfolding ancestor
  from_middle m = middle_row n _ _ _ _ k m

  pub from_back : k < 3 * n → k % 3 ≡ 2 → ancestor n k ≡ PREV (k / 3)
  unfolding ancestor
  from_back l e = back_row n _ _ _ _ k l (λ z. omega arith) (λ o. omega arith)

  pub from_front : k < 3 * n → k % 3 ≢ 2 → ancestor n k ≡ k / 3
  unfolding ancestor
  from_front l e = by (ℕ_discrete (k % 3) 0)
    where
      by : Dec (k % 3 ≡ 0) → ancestor n k ≡ k / 3
      by (yes z) = corner_row n _ _ _ _ k l z
      by (no z) = across_row n _ _ _ _ k l (omega (arith, e, z))

  -- it is in the level before
  pub ancestor_there : n % 3 ≡ 0 → k < 4 * n → ancestor n k < n
  unfolding ancestor
  ancestor_there w l = every_row n _ _ _ _ (λ a. a < n) (λ h m. m) (λ h m. m) (λ h m. prev_below w m) (λ h m. prev_below w m) k l

module _ (t : HalfedgeTable) (k a : ℕ) (x : Cells) {y : Cells} where
  pub made_middle : 3 * t.halfedges ≤ k → y ≡ inside t x (3 * (k - 3 * t.halfedges) + 1) (k - 3 * t.halfedges) → y ≡ child t k a x
  unfolding child
  made_middle m f = f ∙ sym (middle_row_of t.halfedges _ _ _ _ k m)

  module _ (l : k < 3 * t.halfedges) where
    pub made_across : k % 3 ≡ 1 → y ≡ inside t x (3 * t.halfedges + k / 3) (k / 3) → y ≡ child t k a x
    unfolding child
    made_across o f = f ∙ sym (across_row_of t.halfedges _ _ _ _ k l o)

    -- up, as the code has it: whether the ancestor is above its twin
    module _ {up : Bool} (e : up ≡ is_above x.twin a) where
      pub made_outer : k % 3 ≡ 0 → y ≡ outer x up → y ≡ child t k a x
      unfolding child
      made_outer z f = f ∙ ap (outer x) e ∙ sym (corner_row_of t.halfedges _ _ _ _ k l z)

      pub made_inner : k % 3 ≢ 0 → k % 3 ≢ 1 → y ≡ inner x up t.vertices → y ≡ child t k a x
      unfolding child
      made_inner z o f = f ∙ ap (λ b. inner x b t.vertices) e ∙ sym (back_row_of t.halfedges _ _ _ _ k l z o)
