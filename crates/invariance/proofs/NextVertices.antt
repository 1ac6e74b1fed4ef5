-- The next level's VERT passes rules 4 and 5: `next_placed`, `next_used`. Assumes nothing.
use Prim.Native.Nat.{ℕ, ◌+◌, ◌-◌, ◌*◌, ◌<◌}
use mathlib.Core.Path.{◌≡◌, sym, ap, ◌∙◌}
use mathlib.Core.Logic.{◌≢◌, ◌⊎◌, inl, inr}
use native.Mathlib.Decide.{dec_lt}
use native.Mathlib.Omega.{arith}
use lib.ListN.{length}
use Rattle.halfedges.specs.Cage.{NEXT, PREV, marker, E}
use Rattle.tables.specs.Tables.{Tables}
use Rattle.tables.specs.Ruled.{Placed, Used}
use Rattle.halfedges.proofs.Triangle.{next_0, next_1, next_2, next_past, prev_next, next_prev, next-next}
use Rattle.tables.proofs.EdgeCount.{carried}
use Rattle.invariance.proofs.Rows.{Row, out, across, home, middle, row_of}
use Rattle.invariance.proofs.Refinable.{H, TWIN, VERT, EDGE, finer, Refinable, next_in, prev_in, length-twins, length_verts, vert_rows}
use Rattle.invariance.proofs.NextTwins.{out_border, out_inner, across_twin, home_border, home_inner, middle_twin}

module _ {c : Tables} {v : ℕ} (q : Refinable c v) where
  -- two sides of a triangle are two edges
  sides_differ : {h : ℕ} → h < H c → EDGE c h ≢ EDGE c (PREV h)
  sides_differ {h} l e = by (q.ruled.numbered.own h (PREV h) l lp e)
    where
      lp : PREV h < H c
      lp = prev_in q l

      by : (h ≡ PREV h) ⊎ (h ≡ TWIN c (PREV h)) → ⊥
      by (inl i) = q.ruled.placed.ends (PREV h) lp (ap (VERT c) (sym i ∙ sym (next_prev h)))
      by (inr i) =
          let t : TWIN c h ≡ PREV h = ap (TWIN c) i ∙ q.ruled.paired.back (PREV h) lp (rw (← i) (omega arith)) in
          q.ruled.placed.ends (NEXT h) (next_in q l) (sym (q.ruled.placed.twin_ends h l (rw t (omega (arith, lp)))) ∙ ap (VERT c) (t ∙ sym (next-next h)))

  -- what rule 4 says of k
  Places : ℕ → Type 0
  Places k =
      (VERT (finer c v) k < v + E c.twin)
      × (VERT (finer c v) k ≢ VERT (finer c v) (NEXT k))
      × (TWIN (finer c v) k ≢ marker → VERT (finer c v) (TWIN (finer c v) k) ≡ VERT (finer c v) (NEXT k))

  places : {k : ℕ} → Row (H c) k → Places k
  unfolding Places
  places (out {h} l) =
      rw (next_0 h, (vert_rows q).out l, (vert_rows q).across l) (omega (arith, low), omega (arith, low), λ n. twin_end (λ e. n (out_border q l e)))
    where
      low : VERT c h < v
      low = q.ruled.placed.below h l

      twin_end : TWIN c h ≢ marker → VERT (finer c v) (TWIN (finer c v) (3 * h)) ≡ v + EDGE c h
      twin_end m =
          rw (out_inner q l m)
          ((vert_rows q).home (next_in q (q.ruled.paired.below h l m)) ∙ rw (prev_next (TWIN c h), q.ruled.numbered.twin_same h l m))
  places (across {h} l) =
      rw (next_1 h, (vert_rows q).across l, (vert_rows q).home l)
      (omega (arith, q.ruled.numbered.below h l), omega (arith, sides_differ l), λ n. rw (across_twin q l) ((vert_rows q).middle l))
  places (home {h} l) =
      rw (next_2 h, (vert_rows q).home l, (vert_rows q).out l)
      (omega (arith, q.ruled.numbered.below (PREV h) lp), omega (arith, q.ruled.placed.below h l), λ n. twin_end (λ e. n (home_border q l e)))
    where
      lp : PREV h < H c
      lp = prev_in q l

      twin_end : TWIN c (PREV h) ≢ marker → VERT (finer c v) (TWIN (finer c v) (3 * h + 2)) ≡ VERT c h
      twin_end m =
          rw (home_inner q l m)
          ((vert_rows q).out (q.ruled.paired.below (PREV h) lp m) ∙ q.ruled.placed.twin_ends (PREV h) lp m ∙ ap (VERT c) (next_prev h))
  places (middle {h} l) =
      rw (next_past (H c) h, (vert_rows q).middle l, (vert_rows q).middle (next_in q l), prev_next h)
      (omega (arith, q.ruled.numbered.below (PREV h) (prev_in q l)), omega (arith, sides_differ l), λ n. rw (middle_twin q l) ((vert_rows q).across l))

  pub next_placed : Placed (finer c v).twin (finer c v).vert (v + E c.twin)
  unfolding Places
  next_placed = record { below = λ k l. (at k l).0; ends = λ k l. (at k l).1; twin_ends = λ k l n. (at k l).2 n }
    where
      at : (k : ℕ) → k < length (finer c v).twin → Places k
      at k l = places (row_of (rw (length-twins q) at l))

  pub next_used : Used (finer c v).vert (v + E c.twin)
  next_used = record { corner = λ u l. by u l (dec_lt u v) }
    where
      in_new : (k : ℕ) → k < 4 * H c → k < length (finer c v).vert
      in_new k l = rw (length_verts q) l

      by : (u : ℕ) → u < v + E c.twin → Dec (u < v) → (k : ℕ) × (k < length (finer c v).vert) × (VERT (finer c v) k ≡ u)
      by u l (yes o) =
          let g = q.ruled.used.corner u o in
          let lg : g.0 < H c = rw q.shaped.vert_long at g.1 in
          (3 * g.0, in_new _ (omega arith), (vert_rows q).out lg ∙ g.2)
      by u l (no o) =
          let g = carried c.twin (omega arith) q.ruled.paired c.edge q.ruled.numbered (u - v) (omega (arith, o)) in
          (3 * g.0 + 1, in_new _ (omega (arith, g.1)), (vert_rows q).across g.1 ∙ omega (arith, g.2, o))
