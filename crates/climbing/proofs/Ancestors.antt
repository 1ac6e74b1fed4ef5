-- A halfedge of a level, by its ancestor in the level before. Assumes nothing.
--     cage_there, cage_is                         in the cage
--     up_climbable, up_there                      the ancestor, at depth - 1
--     old_small, down_small, down_there           what it has is small enough
--     down_is                                     and makes what the halfedge has
use Prim.Native.Nat.{ℕ, suc, ◌-◌, ◌*◌, ◌<◌}
use mathlib.Core.Path.{◌≡◌, sym, ap, ◌∙◌}
use mathlib.Core.Logic.{◌≢◌}
use native.Mathlib.Omega.{arith}
use Rattle.halfedges.specs.declared.table.HalfedgeTable.{HalfedgeTable}
use Rattle.halfedges.specs.Cage.{most_halfedges}
use Rattle.halfedges.specs.Counts.{counts_at, Hs}
use Rattle.halfedges.specs.Internal.Counts.{AtMost}
use Rattle.halfedges.proofs.Growth.{levels_at_most}
use Rattle.tables.specs.Tables.{Tables}
use Rattle.splitting.specs.NextLevel.{level}
use Rattle.splitting.specs.Internal.InPlace.{most_small, Sound}
use Rattle.splitting.proofs.Soundness.{sound_at}
use Rattle.climbing.specs.declared.rows.Cells.{Cells}
use Rattle.climbing.specs.Halfedge.{cells_of}
use Rattle.climbing.specs.Internal.Climbing.{ancestor, child, SmallCells, InTables, Climbable}
use Rattle.climbing.proofs.ByAncestor.{cells-next}
use Rattle.climbing.proofs.Made.{ancestor_there}

-- what a small level has for a halfedge
small_cells : (t : HalfedgeTable) (c : Tables) → Sound t c → AtMost most_small t → (h : ℕ) → h < t.halfedges → SmallCells (cells_of c h)
small_cells t c s a h l =
    record { twin = λ m. omega (arith, a.halfedges, s.twin_below h l m); edge = omega (arith, a.edges, s.edge_below h l) }

module _ {t : HalfedgeTable} {c : Tables} {depth : ℕ} (r : Climbable t depth c) {h : ℕ} (l : h < Hs t depth) where
  -- at depth 0
  module _ (z : depth ≡ 0) where
    pub cage_there : InTables h c
    unfolding counts_at
    cage_there =
        let m : h < t.halfedges = rw z at l in
        record { twin = rw r.sound.twin_long m; vert = rw r.sound.vert_long m; edge = rw r.sound.edge_long m }

    pub cage_is : cells_of c h ≡ cells_of (level t c depth) h
    unfolding level
    cage_is = rw z

  -- above it
  module _ (p : depth ≢ 0) where
    last : suc (depth - 1) ≡ depth
    last = omega (arith, p)

    four : Hs t depth ≡ 4 * Hs t (depth - 1)
    unfolding counts_at
    four = ap (Hs t) (sym last)

    sound : Sound (counts_at t (depth - 1)) (level t c (depth - 1))
    sound = sound_at t c r.sound (depth - 1)

    pub up_climbable : Climbable t (depth - 1) c
    up_climbable = record { sound = r.sound; small = r.small; shallow = omega (arith, r.shallow) }

    -- u counts the level before
    module _ {u : HalfedgeTable} (e : u ≡ counts_at t (depth - 1)) where
      pub down_small : AtMost most_small u
      down_small =
          rw e
          (let a = levels_at_most most_halfedges 5 t r.small (depth - 1) (omega (arith, r.shallow)) in
          record { halfedges = omega arith; edges = omega arith; vertices = omega arith })

      pub down_there : h < 4 * u.halfedges
      down_there = rw e (omega (arith, four))

      -- a is the ancestor's number, and old what that level has for it
      module _ {a : ℕ} (q : a ≡ ancestor u.halfedges h) where
        pub up_there : a < Hs t (depth - 1)
        up_there = rw q (rw e (ancestor_there (Hs t (depth - 1)) h sound.whole (rw e at down_there)))

        module _ {old : Cells} (f : old ≡ cells_of (level t c (depth - 1)) a) where
          pub old_small : SmallCells old
          old_small = rw f (small_cells (counts_at t (depth - 1)) (level t c (depth - 1)) sound (rw e at down_small) a up_there)

          pub down_is : {x : Cells} → x ≡ child u h a old → x ≡ cells_of (level t c depth) h
          unfolding level
          down_is g =
              let before = level t c (depth - 1) in
              g
              ∙ ap (child u h a) f
              ∙ ap (λ b. child u h b (cells_of before b)) q
              ∙ ap (λ y. child y h (ancestor y.halfedges h) (cells_of before (ancestor y.halfedges h))) e
              ∙ sym (cells-next (counts_at t (depth - 1)) before sound h (rw e at down_there))
              ∙ ap (λ d. cells_of (level t c d) h) last
