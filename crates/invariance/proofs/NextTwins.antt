-- The next level's TWIN.
--     out_border, .. middle_twin         the new twins, row by row
--     out_on_border, .. middle-inner     where the new border is
--     next_paired                        the new table passes rule 3
--     next_borders                       border edges double
--     next_edges_lem                         E becomes 2E+H
-- Assumes nothing.
use Prim.Native.Nat.{ℕ, ◌+◌, ◌*◌, ◌<◌}
use mathlib.Core.Path.{◌≡◌, ◌∙◌}
use mathlib.Core.Logic.{◌≢◌}
use mathlib.Core.Bool.{cond}
use native.Mathlib.Decide.{ℕ_discrete}
use native.Mathlib.Omega.{arith}
use lib.ListN.{length}
use borrow.Author.Tests.{eq-eqb, ne_eqb}
use Rattle.laws.proofs.Tests.{same_eqb}
use Rattle.laws.proofs.Sums.{sum_same, sum_add, sum_none}
use Rattle.laws.proofs.Turnings.{turned_back, sum-turned}
use Rattle.halfedges.specs.Cage.{NEXT, PREV, marker, border, E, B}
use Rattle.tables.specs.Tables.{Tables}
use Rattle.tables.specs.Ruled.{Paired}
use Rattle.halfedges.proofs.Triangle.{prev_next, next_prev, round}
use Rattle.tables.proofs.EdgeCount.{twin_has_twin, twice_edges}
use Rattle.invariance.proofs.Rows.{Row, out, across, home, middle, row_of, sum_rows}
use Rattle.invariance.proofs.Refinable.{H, TWIN, finer, Refinable, next_in, prev_in, length-twins, twin_rows}

module _ {c : Tables} {v : ℕ} (q : Refinable c v) {h : ℕ} (l : h < H c) where
  pub out_border : TWIN c h ≡ marker → TWIN (finer c v) (3 * h) ≡ marker
  out_border m = (twin_rows q).out l ∙ rw (eq-eqb (TWIN c h) marker m)

  pub out_inner : TWIN c h ≢ marker → TWIN (finer c v) (3 * h) ≡ 3 * NEXT (TWIN c h) + 2
  out_inner n = (twin_rows q).out l ∙ rw (ne_eqb (TWIN c h) marker n)

  pub across_twin : TWIN (finer c v) (3 * h + 1) ≡ 3 * H c + h
  across_twin = (twin_rows q).across l

  pub home_border : TWIN c (PREV h) ≡ marker → TWIN (finer c v) (3 * h + 2) ≡ marker
  home_border m = (twin_rows q).home l ∙ rw (eq-eqb (TWIN c (PREV h)) marker m)

  pub home_inner : TWIN c (PREV h) ≢ marker → TWIN (finer c v) (3 * h + 2) ≡ 3 * TWIN c (PREV h)
  home_inner n = (twin_rows q).home l ∙ rw (ne_eqb (TWIN c (PREV h)) marker n)

  pub middle_twin : TWIN (finer c v) (3 * H c + h) ≡ 3 * h + 1
  middle_twin = (twin_rows q).middle l

  -- ---- where the new border is

  pub out_on_border : TWIN (finer c v) (3 * h) ≡ marker → TWIN c h ≡ marker
  out_on_border e = by (ℕ_discrete (TWIN c h) marker)
    where
      by : Dec (TWIN c h ≡ marker) → TWIN c h ≡ marker
      by (yes m) = m
      by (no n) = absurd (omega (arith, out_inner n, next_in q (q.ruled.paired.below h l n)))

  pub across_inner : TWIN (finer c v) (3 * h + 1) ≢ marker
  across_inner = rw across_twin (omega arith)

  pub home_on_border : TWIN (finer c v) (3 * h + 2) ≡ marker → TWIN c (PREV h) ≡ marker
  home_on_border e = by (ℕ_discrete (TWIN c (PREV h)) marker)
    where
      by : Dec (TWIN c (PREV h) ≡ marker) → TWIN c (PREV h) ≡ marker
      by (yes m) = m
      by (no n) = absurd (omega (arith, home_inner n, q.ruled.paired.below (PREV h) (prev_in q l) n))

  pub middle-inner : TWIN (finer c v) (3 * H c + h) ≢ marker
  middle-inner = rw middle_twin (omega arith)

module _ {c : Tables} {v : ℕ} (q : Refinable c v) where
  -- what rule 3 says of k
  Pairs : ℕ → Type 0
  Pairs k = (TWIN (finer c v) k < 4 * H c) × (TWIN (finer c v) k ≢ k) × (TWIN (finer c v) (TWIN (finer c v) k) ≡ k)

  pairs : {k : ℕ} → Row (H c) k → TWIN (finer c v) k ≢ marker → Pairs k
  unfolding Pairs
  pairs (across l) n = rw (across_twin q l) (omega arith, omega arith, middle_twin q l)
  pairs (middle l) n = rw (middle_twin q l) (omega arith, omega arith, across_twin q l)
  pairs (out {h} l) n =
      let m : TWIN c h ≢ marker = λ e. n (out_border q l e) in
      let lt = next_in q (q.ruled.paired.below h l m) in
      let back = home_inner q lt (rw (prev_next (TWIN c h)) (twin_has_twin c.twin (omega arith) q.ruled.paired h l m)) in
      rw (out_inner q l m) (omega arith, omega arith, back ∙ rw (prev_next (TWIN c h), q.ruled.paired.back h l m))
  pairs (home {h} l) n =
      let m : TWIN c (PREV h) ≢ marker = λ e. n (home_border q l e) in
      let lp = prev_in q l in
      let lt = q.ruled.paired.below (PREV h) lp m in
      let back = out_inner q lt (twin_has_twin c.twin (omega arith) q.ruled.paired (PREV h) lp m) in
      rw (home_inner q l m) (omega arith, omega arith, back ∙ rw (q.ruled.paired.back (PREV h) lp m, next_prev h))

  pub next_paired : Paired (finer c v).twin
  unfolding Pairs
  next_paired = record { below = λ k l n. rw (length-twins q) (at k l n).0; other = λ k l n. (at k l n).1; back = λ k l n. (at k l n).2 }
    where
      at : (k : ℕ) → k < length (finer c v).twin → TWIN (finer c v) k ≢ marker → Pairs k
      at k l n = pairs (row_of (rw (length-twins q) at l)) n

  pub next_borders : B (finer c v).twin ≡ 2 * B c.twin
  unfolding B
  next_borders =
      rw (length-twins q)
      (omega (
        arith,
        sum_rows (H c) (λ k. cond (border (finer c v).twin k) 1 0),
        sum_same (H c) _ (λ h. one h + one (PREV h)) corner,
        sum_add (H c) one (λ h. one (PREV h)),
        sum-turned (H c) PREV NEXT one (turned_back (round q.shaped.whole)),
        sum_none (H c) (λ h. cond (border (finer c v).twin (3 * H c + h)) 1 0) (λ h l. rw (ne_eqb _ marker (middle-inner q l))),
      ))
    where
      one : ℕ → ℕ
      one h = cond (border c.twin h) 1 0

      corner :
          (h : ℕ) → h < H c
          → cond (border (finer c v).twin (3 * h)) 1 0 + cond (border (finer c v).twin (3 * h + 1)) 1 0 + cond (border (finer c v).twin (3 * h + 2)) 1 0
          ≡ one h + one (PREV h)
      corner h l =
          rw (
            same_eqb (TWIN (finer c v) (3 * h)) marker (TWIN c h) marker (out_on_border q l) (out_border q l),
            ne_eqb (TWIN (finer c v) (3 * h + 1)) marker (across_inner q l),
            same_eqb (TWIN (finer c v) (3 * h + 2)) marker (TWIN c (PREV h)) marker (home_on_border q l) (home_border q l),
          )
          (omega arith)

  pub next_edges_lem : E (finer c v).twin ≡ 2 * E c.twin + H c
  next_edges_lem =
      omega (
        arith,
        twice_edges c.twin (omega arith) q.ruled.paired,
        twice_edges (finer c v).twin (rw (length-twins q) q.small) next_paired,
        next_borders,
        length-twins q,
      )
