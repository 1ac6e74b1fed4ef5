-- Levels end to end in front of the lent table, and the steps of the loop that writes them: `written_start`, `written_fits`,
-- `written_small`, `written_on`, `written_long`, `written_all`. Assumes nothing.
use Prim.Native.Nat.{ℕ, zero, suc, ◌+◌, ◌*◌, ◌^◌, ◌≤◌, ◌<◌}
use mathlib.Core.Path.{◌≡◌, refl, sym, ap, ◌∙◌}
use mathlib.Core.List.{List}
use native.Mathlib.Nat.{pow-zero, pow-suc}
use native.Mathlib.Numerals.{add-one}
use native.Mathlib.Omega.{arith}
use lib.ListN.{length}
use Rattle.laws.specs.Below.{tabulate, end_to_end, sum}
use Rattle.laws.specs.Parts.{in_front}
use Rattle.laws.specs.Internal.Parts.{splice}
use Rattle.laws.proofs.Parts.{length-in_front}
use Rattle.laws.proofs.Splice.{over_more}
use Rattle.laws.proofs.Sums.{sum_same, sum_grows}
use Rattle.laws.proofs.EndToEnd.{length-end_to_end}
use Rattle.halfedges.specs.declared.table.HalfedgeTable.{HalfedgeTable}
use Rattle.halfedges.specs.Cage.{most_halfedges}
use Rattle.halfedges.specs.Internal.Counts.{AtMost}
use Rattle.halfedges.specs.Counts.{finer, counts_at, Es}
use Rattle.halfedges.proofs.Growth.{levels_at_most}
use Rattle.creases.specs.Creases.{creases_at}
use Rattle.creases.specs.Internal.Writing.{left_at, Writable, Fitting}
use Rattle.creases.proofs.Table.{creases_long, by_cells}

-- the loop has written the levels below d, after which level d stands, whose counts are u
pub record Written (t : HalfedgeTable) (depth : ℕ) (creases xs ys : List ℕ) (u : HalfedgeTable) (at d : ℕ) : Type 0 where
  pub so_far : ys ≡ in_front (end_to_end d (creases_at t creases)) xs
  pub counts : u ≡ counts_at t d
  pub offset : at ≡ sum d (Es t)
  pub within : d ≤ depth + 1

-- the halves of the cage's edges are some of a level's
halves_few : (t : HalfedgeTable) (d : ℕ) → t.edges * 2 ^ d ≤ Es t d
unfolding counts_at
halves_few t zero = rw (pow-zero 2) (omega arith)
halves_few t (suc d) = rw (pow-suc 2 d) (omega (arith, halves_few t d))

module _ {t : HalfedgeTable} {depth : ℕ} {creases xs : List ℕ} (r : Writable t depth creases xs) where
  front_long : (d : ℕ) → length (end_to_end d (creases_at t creases)) ≡ sum d (Es t)
  front_long d = length-end_to_end d (creases_at t creases) ∙ sum_same d _ (Es t) (λ k _. creases_long t creases r.long k)

  -- the levels up to d are part of the room
  room_for : (d : ℕ) → d ≤ depth + 1 → sum d (Es t) ≤ length xs
  room_for d l = omega (arith, sum_grows (Es t) d (suc depth) (omega arith), r.room)

  pub written_start : Written t depth creases xs xs t 0 0
  unfolding counts_at
  written_start = record { so_far = refl; counts = refl; offset = refl; within = omega arith }

  module _ {ys : List ℕ} {u : HalfedgeTable} {at d : ℕ} (w : Written t depth creases xs ys u at d) where
    pub written_long : length ys ≡ length xs
    written_long = ap length w.so_far ∙ length-in_front (end_to_end d (creases_at t creases)) xs (rw (front_long d) (room_for d w.within))

    pub written_small : d ≤ depth → AtMost (4 ^ 6 * most_halfedges) u
    written_small l = rw w.counts (levels_at_most most_halfedges 6 t r.small d (omega (arith, r.shallow)))

    pub written_fits : d ≤ depth → Fitting creases d at u.edges ys
    written_fits l =
        rw w.counts
        (record {
          shallow = omega (arith, r.shallow);
          halves = rw r.long (halves_few t d);
          room = omega (arith, w.offset, written_long, room_for (suc d) (omega arith));
        })

    level-cells : tabulate u.edges (left_at creases d) ≡ creases_at t creases d
    level-cells = rw w.counts (by_cells t creases r.long d)

    pub written_on :
        {zs : List ℕ} {v : HalfedgeTable}
        → d ≤ depth → zs ≡ splice ys at (tabulate u.edges (left_at creases d)) → v ≡ finer u
        → Written t depth creases xs zs v (at + u.edges) (d + 1)
    unfolding counts_at
    written_on l e f =
        rw (add-one d)
        (record {
          so_far = e ∙ ap (splice ys at) level-cells ∙ over_more xs ys (end_to_end d (creases_at t creases)) (creases_at t creases d) at w.so_far (front_long d ∙ sym w.offset);
          counts = f ∙ ap finer w.counts;
          offset = rw (w.counts, w.offset);
          within = omega arith;
        })

    pub written_all : depth < d → ys ≡ in_front (end_to_end (suc depth) (creases_at t creases)) xs
    written_all l =
        let e : d ≡ suc depth = omega (arith, w.within) in
        w.so_far ∙ ap (λ k. in_front (end_to_end k (creases_at t creases)) xs) e
