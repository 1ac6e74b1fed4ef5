-- A cage copied to the front of the lent tables: it fits (`cage_short`), stands there (`cage_there`), and its levels cover it
-- (`levels_over`). Assumes nothing.
use Prim.Native.Nat.{ℕ, suc, ◌≤◌}
use mathlib.Core.Path.{◌≡◌}
use mathlib.Core.List.{List}
use native.Mathlib.Omega.{arith}
use lib.ListN.{length}
use Rattle.halfedges.specs.declared.table.HalfedgeTable.{HalfedgeTable}
use Rattle.laws.specs.Below.{end_to_end, sum}
use Rattle.laws.specs.Internal.Parts.{part}
use Rattle.laws.specs.Parts.{in_front}
use Rattle.laws.proofs.Parts.{length-in_front}
use Rattle.laws.proofs.InFront.{part-in_front, in_front_over}
use Rattle.laws.proofs.Sums.{sum_same, sum_grows}
use Rattle.laws.proofs.EndToEnd.{length-end_to_end}
use Rattle.halfedges.specs.Counts.{counts_at, Hs, room_h}
use Rattle.tables.specs.Tables.{Tables, tables}
use Rattle.splitting.specs.NextLevel.{level}
use Rattle.levels.specs.Refining.{levels_end_to_end}
use Rattle.splitting.specs.Internal.InPlace.{level_at, Sound}
use Rattle.levels.specs.Internal.Filling.{tables_in_front, Refinable}
use Rattle.splitting.proofs.Soundness.{sound_at}

-- the cage is part of the room
cage_fits : (t : HalfedgeTable) (depth : ℕ) → t.halfedges ≤ room_h t depth
unfolding counts_at
cage_fits t depth = let g : sum 1 (Hs t) ≤ room_h t depth = sum_grows (Hs t) 1 (suc depth) (omega arith) in omega arith

module _ {t : HalfedgeTable} {depth : ℕ} {c x : Tables} (r : Refinable t depth c x) where
  abbrev s : Sound t c
  s = r.sound

  module _ (cells xs : List ℕ) (e : length cells ≡ t.halfedges) where
    there : part (in_front cells xs) 0 t.halfedges ≡ cells
    there = rw (← e) (part-in_front cells xs)

    room : room_h t depth ≤ length xs → room_h t depth ≤ length (in_front cells xs)
    room l = rw (length-in_front cells xs (omega (arith, cage_fits t depth))) l

    over : (f : ℕ → List ℕ) → ((d : ℕ) → length (f d) ≡ Hs t d) → in_front (end_to_end (suc depth) f) (in_front cells xs) ≡ in_front (end_to_end (suc depth) f) xs
    over f long =
        in_front_over cells xs (end_to_end (suc depth) f)
        (omega (arith, cage_fits t depth, length-end_to_end (suc depth) f, sum_same (suc depth) (λ k. length (f k)) (Hs t) (λ k l. long k)))

  pub cage_there : level_at t 0 (tables_in_front c x) ≡ c
  unfolding tables_in_front
  cage_there = λ i. tables (there c.twin x.twin s.twin_long i) (there c.vert x.vert s.vert_long i) (there c.edge x.edge s.edge_long i)

  -- a cage's table is no longer than the lent one
  pub cage_short : (length c.twin ≤ length x.twin) × (length c.vert ≤ length x.vert) × (length c.edge ≤ length x.edge)
  cage_short =
      let f = cage_fits t depth in
      (omega (arith, s.twin_long, r.twin_room), omega (arith, s.vert_long, r.vert_room), omega (arith, s.edge_long, r.edge_room))

  pub levels_over : tables_in_front (levels_end_to_end t (level_at t 0 (tables_in_front c x)) depth) (tables_in_front c x) ≡ tables_in_front (levels_end_to_end t c depth) x
  unfolding tables_in_front levels_end_to_end
  levels_over =
      rw cage_there
      (λ i. tables
      (over c.twin x.twin s.twin_long (λ d. (level t c d).twin) (λ d. (sound_at t c s d).twin_long) i)
      (over c.vert x.vert s.vert_long (λ d. (level t c d).vert) (λ d. (sound_at t c s d).vert_long) i)
      (over c.edge x.edge s.edge_long (λ d. (level t c d).edge) (λ d. (sound_at t c s d).edge_long) i))
