-- Levels 0 to d end to end in front of the lent tables, and the steps of the loop that fills them in: `reached_start`,
-- `reached_stands`, `reached_on`, `reached_long`. Assumes nothing.
use Prim.Native.Nat.{ℕ, zero, suc, ◌+◌, ◌*◌, ◌^◌, ◌≤◌, ◌<◌}
use mathlib.Core.Path.{◌≡◌, refl, sym, ap, ◌∙◌}
use mathlib.Core.List.{List}
use native.Mathlib.Numerals.{add-one}
use native.Mathlib.Omega.{arith}
use lib.ListN.{length, take-append-drop}
use Rattle.halfedges.specs.declared.table.HalfedgeTable.{HalfedgeTable}
use Rattle.laws.specs.Below.{end_to_end, sum}
use Rattle.laws.specs.Internal.Parts.{part}
use Rattle.laws.specs.Parts.{in_front}
use Rattle.laws.proofs.Parts.{length-in_front, part_at}
use Rattle.laws.proofs.Sums.{sum_same, sum_grows}
use Rattle.laws.proofs.EndToEnd.{length-end_to_end, last_part, one_more}
use Rattle.halfedges.specs.Cage.{most_halfedges}
use Rattle.halfedges.specs.Internal.Counts.{AtMost}
use Rattle.halfedges.specs.Counts.{finer, counts_at, Hs, room_h}
use Rattle.halfedges.proofs.Growth.{levels_at_most}
use Rattle.tables.specs.Tables.{Tables, tables}
use Rattle.splitting.specs.NextLevel.{next, level}
use Rattle.levels.specs.Refining.{levels_end_to_end}
use Rattle.splitting.specs.Internal.InPlace.{most_small, level_at, with_next, with_next_level, Sound, Housed, CageOrDescended, Standing}
use Rattle.levels.specs.Internal.Filling.{tables_in_front, Refinable}
use Rattle.splitting.proofs.Soundness.{sound_at}
use Rattle.splitting.proofs.Descent.{descended}

-- levels 0 to d, and past them what the tables held
unfoldable pub stage : HalfedgeTable → Tables → ℕ → Tables
stage t x d = tables_in_front (levels_end_to_end t (level_at t 0 x) d) x

-- the loop has filled in the levels up to d, whose counts are u and which stands at an offset
pub record Reached (t : HalfedgeTable) (depth : ℕ) (x y : Tables) (u : HalfedgeTable) (at d : ℕ) : Type 0 where
  pub so_far : y ≡ stage t x d
  pub counts : u ≡ counts_at t d
  pub offset : at ≡ sum d (Hs t)
  pub within : d ≤ depth

module _ (t : HalfedgeTable) (depth : ℕ) (x : Tables) (r : Refinable t depth (level_at t 0 x) x) where
  abbrev c : Tables
  c = level_at t 0 x

  sound : (d : ℕ) → Sound (counts_at t d) (level t c d)
  sound = sound_at t c r.sound

  -- one table: its levels f, each of which has the level's number of halfedges
  module _ (f : ℕ → List ℕ) (long : (d : ℕ) → length (f d) ≡ Hs t d) where
    front_long : (d : ℕ) → length (end_to_end d f) ≡ sum d (Hs t)
    front_long d = length-end_to_end d f ∙ sum_same d _ _ (λ k _. long k)

    start : (xs : List ℕ) → f 0 ≡ part xs 0 (Hs t 0) → xs ≡ in_front (end_to_end 1 f) xs
    start xs e = rw (long 0, e) (sym (take-append-drop (Hs t 0) xs))

    last : (xs : List ℕ) (d : ℕ) → part (in_front (end_to_end (suc d) f) xs) (sum d (Hs t)) (Hs t d) ≡ f d
    last xs d = rw (← front_long d, ← long d) (last_part f xs d)

    more : (xs : List ℕ) (d : ℕ) → with_next (in_front (end_to_end (suc d) f) xs) (sum d (Hs t)) (Hs t d) (f (suc d)) ≡ in_front (end_to_end (suc (suc d)) f) xs
    unfolding counts_at
    more xs d =
        let e : sum d (Hs t) + 5 * Hs t d ≡ sum d (Hs t) + Hs t d + length (f (suc d)) = omega (arith, long (suc d)) in
        rw e (one_more f xs d (sum d (Hs t) + Hs t d) (sym (front_long (suc d))))

    kept : (xs : List ℕ) (d : ℕ) → d ≤ depth → room_h t depth ≤ length xs → length (in_front (end_to_end (suc d) f) xs) ≡ length xs
    kept xs d l room =
        length-in_front (end_to_end (suc d) f) xs
        (rw (front_long (suc d)) (omega (arith, sum_grows (Hs t) (suc d) (suc depth) (omega arith))))

    fits : (xs : List ℕ) (d : ℕ) → d < depth → room_h t depth ≤ length xs → sum d (Hs t) + 5 * Hs t d ≤ length (in_front (end_to_end (suc d) f) xs)
    unfolding counts_at
    fits xs d l room =
        let g : room_h t (suc d) ≤ room_h t depth = sum_grows (Hs t) (suc (suc d)) (suc depth) (omega arith) in
        omega (arith, kept xs d (omega arith) room)

  twins : ℕ → List ℕ
  twins d = (level t c d).twin

  verts : ℕ → List ℕ
  verts d = (level t c d).vert

  edges : ℕ → List ℕ
  edges d = (level t c d).edge

  twins_long : (d : ℕ) → length (twins d) ≡ Hs t d
  unfolding twins
  twins_long d = (sound d).twin_long

  verts_long : (d : ℕ) → length (verts d) ≡ Hs t d
  unfolding verts
  verts_long d = (sound d).vert_long

  edges_long : (d : ℕ) → length (edges d) ≡ Hs t d
  unfolding edges
  edges_long d = (sound d).edge_long

  -- the cage, or a level that was made of the one before it
  rows_of : (d : ℕ) (xs : List ℕ) → part xs (sum d (Hs t)) (Hs t d) ≡ (level t c d).twin → CageOrDescended (counts_at t d) (sum d (Hs t)) xs
  unfolding level counts_at
  rows_of zero xs e m = absurd (m refl)
  rows_of (suc d) xs e m = descended (counts_at t (suc d)) (sum (suc d) (Hs t)) xs (level t c d).twin (omega (arith, (sound d).twin_long)) e

  module _ (d : ℕ) where
    level_there : level_at (counts_at t d) (sum d (Hs t)) (stage t x d) ≡ level t c d
    unfolding stage tables_in_front levels_end_to_end twins verts edges
    level_there = λ i. tables (last twins twins_long x.twin d i) (last verts verts_long x.vert d i) (last edges edges_long x.edge d i)

    module _ (l : d < depth) where
      small_there : AtMost most_small (counts_at t d)
      small_there =
          let a = levels_at_most most_halfedges 5 t r.small d (omega (arith, r.shallow)) in
          record { halfedges = omega arith; edges = omega arith; vertices = omega arith }

      housed : {xs : List ℕ} → sum d (Hs t) + 5 * Hs t d ≤ length xs → Housed (counts_at t d) (sum d (Hs t)) xs
      housed room = record { small = small_there; whole = (sound d).whole; room = room }

      stage_stands : Standing (counts_at t d) (sum d (Hs t)) (stage t x d)
      unfolding stage tables_in_front levels_end_to_end twins verts edges
      stage_stands =
          let s : Sound (counts_at t d) (level_at (counts_at t d) (sum d (Hs t)) (stage t x d)) = rw level_there (sound d) in
          record {
            twin = housed (fits twins twins_long x.twin d l r.twin_room);
            vert = housed (fits verts verts_long x.vert d l r.vert_room);
            edge = housed (fits edges edges_long x.edge d l r.edge_room);
            twins = λ h m. rw (← part_at (stage t x d).twin (sum d (Hs t)) (Hs t d) h 0 m) (λ k. omega (arith, small_there.halfedges, s.twin_below h m k));
            rows = rows_of d (stage t x d).twin (ap (λ y. y.twin) level_there);
            edges = λ h m. rw (← part_at (stage t x d).edge (sum d (Hs t)) (Hs t d) h 0 m) (omega (arith, small_there.edges, s.edge_below h m));
          }

    -- the stage with a level's next one after it
    abbrev with_next_lem : Tables → Tables
    with_next_lem l =
        let c = next (counts_at t d) l in
        tables
        (with_next (stage t x d).twin (sum d (Hs t)) (Hs t d) c.twin)
        (with_next (stage t x d).vert (sum d (Hs t)) (Hs t d) c.vert)
        (with_next (stage t x d).edge (sum d (Hs t)) (Hs t d) c.edge)

    stage_more : with_next_level (counts_at t d) (sum d (Hs t)) (stage t x d) ≡ stage t x (suc d)
    unfolding with_next_level stage tables_in_front levels_end_to_end twins verts edges level
    stage_more =
        ap with_next_lem level_there
        ∙ λ i. tables (more twins twins_long x.twin d i) (more verts verts_long x.vert d i) (more edges edges_long x.edge d i)

  stage_start : x ≡ stage t x 0
  unfolding stage tables_in_front levels_end_to_end twins verts edges level counts_at
  stage_start = λ i. tables (start twins twins_long x.twin refl i) (start verts verts_long x.vert refl i) (start edges edges_long x.edge refl i)

  small : (d : ℕ) → d ≤ depth → AtMost (4 ^ 6 * most_halfedges) (counts_at t d)
  small d l = levels_at_most most_halfedges 6 t r.small d (omega (arith, r.shallow))

  -- the steps of the loop: where it starts, what stands there, one level more, and how long the tables are
  pub reached_start : Reached t depth x x t 0 0
  unfolding counts_at
  reached_start = record { so_far = stage_start; counts = refl; offset = refl; within = omega arith }

  module _ {y : Tables} {u : HalfedgeTable} {at d : ℕ} (e : Reached t depth x y u at d) where
    pub reached_small : AtMost (4 ^ 6 * most_halfedges) u
    reached_small = rw e.counts (small d e.within)

    pub reached_stands : d < depth → Standing u at y
    reached_stands l = rw (e.counts, e.offset, e.so_far) (stage_stands d l)

    pub reached_on : {z : Tables} {w : HalfedgeTable} → d < depth → z ≡ with_next_level u at y → w ≡ finer u → Reached t depth x z w (at + u.halfedges) (d + 1)
    unfolding counts_at
    reached_on l f g =
        rw (add-one d)
        (record {
          so_far = f ∙ rw (e.counts, e.offset, e.so_far) (stage_more d);
          counts = g ∙ ap finer e.counts;
          offset = rw (e.counts, e.offset);
          within = l;
        })

    pub reached_long : (length y.twin ≡ length x.twin) × (length y.vert ≡ length x.vert) × (length y.edge ≡ length x.edge)
    unfolding stage tables_in_front levels_end_to_end twins verts edges
    reached_long =
        rw e.so_far
        (kept twins twins_long x.twin d e.within r.twin_room, kept verts verts_long x.vert d e.within r.vert_room, kept edges edges_long x.edge d e.within r.edge_room)
