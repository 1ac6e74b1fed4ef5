-- The next level's EDGE passes rule 6: `next-numbered`. Assumes nothing.
use Prim.Native.Nat.{ℕ, ◌+◌, ◌*◌, ◌<◌}
use mathlib.Core.Path.{◌≡◌, refl, sym, ap, ◌∙◌}
use mathlib.Core.Logic.{◌≢◌, ◌⊎◌, inl, inr}
use mathlib.Core.Bool.{Bool, true, false, cond, not}
use native.Mathlib.Omega.{arith}
use lib.ListN.{length}
use Rattle.halfedges.specs.Cage.{NEXT, PREV, marker, above, E}
use Rattle.tables.specs.Tables.{Tables}
use Rattle.tables.specs.Ruled.{Numbered}
use Rattle.halfedges.proofs.Triangle.{prev_next, next_prev}
use Rattle.tables.proofs.EdgeCount.{above_twin}
use Rattle.invariance.proofs.Rows.{Rows, Row, out, across, home, middle, row_of}
use Rattle.invariance.proofs.Refinable.{H, TWIN, EDGE, finer, Refinable, next_in, prev_in, length-twins, edge_rows}
use Rattle.invariance.proofs.NextTwins.{out_border, out_inner, across_twin, home_border, home_inner, middle_twin, next_paired, next_edges_lem}

-- which half of an edge: the first is 0 where a halfedge stands above its twin, the second where it does not
first : Bool → ℕ
first b = cond b 0 1

second : Bool → ℕ
second b = cond b 1 0

halves : (b : Bool) → first b + second b ≡ 1
unfolding first second
halves true = refl
halves false = refl

first_not : (b : Bool) → first (not b) ≡ second b
unfolding first second
first_not true = refl
first_not false = refl

second_not : (b : Bool) → second (not b) ≡ first b
unfolding first second
second_not true = refl
second_not false = refl

abbrev first_half : Tables → ℕ → ℕ
first_half c h = first (above c.twin h)

abbrev second_half : Tables → ℕ → ℕ
second_half c h = second (above c.twin h)

module _ {c : Tables} {v : ℕ} (q : Refinable c v) where
  edges : Rows (finer c v).edge (H c) (λ h. 2 * EDGE c h + first_half c h) (λ h. 2 * E c.twin + h) (λ h. 2 * EDGE c (PREV h) + second_half c (PREV h)) (λ h. 2 * E c.twin + h)
  unfolding first second
  edges = edge_rows q

  low_out : {h : ℕ} → h < H c → EDGE (finer c v) (3 * h) < 2 * E c.twin
  low_out {h} l = omega (arith, edges.out l, q.ruled.numbered.below h l, halves (above c.twin h))

  low_home : {h : ℕ} → h < H c → EDGE (finer c v) (3 * h + 2) < 2 * E c.twin
  low_home {h} l = omega (arith, edges.home l, q.ruled.numbered.below (PREV h) (prev_in q l), halves (above c.twin (PREV h)))

  below : {k : ℕ} → Row (H c) k → EDGE (finer c v) k < 2 * E c.twin + H c
  below (out l) = omega (arith, low_out l)
  below (across l) = omega (arith, edges.across l)
  below (home l) = omega (arith, low_home l)
  below (middle l) = omega (arith, edges.middle l)

  above_one : {h : ℕ} → h < H c → TWIN c h ≢ marker → above c.twin (TWIN c h) ≡ not (above c.twin h)
  above_one {h} l n = above_twin c.twin (omega arith) q.ruled.paired h l n

  twin_same : {k : ℕ} → Row (H c) k → TWIN (finer c v) k ≢ marker → EDGE (finer c v) (TWIN (finer c v) k) ≡ EDGE (finer c v) k
  twin_same (across l) n = rw (across_twin q l, edges.across l) (edges.middle l)
  twin_same (middle l) n = rw (middle_twin q l, edges.middle l) (edges.across l)
  twin_same (out {h} l) n =
      let m : TWIN c h ≢ marker = λ e. n (out_border q l e) in
      rw (out_inner q l m, edges.out l)
      (edges.home (next_in q (q.ruled.paired.below h l m))
      ∙ rw (prev_next (TWIN c h), q.ruled.numbered.twin_same h l m, above_one l m, second_not (above c.twin h)))
  twin_same (home {h} l) n =
      let m : TWIN c (PREV h) ≢ marker = λ e. n (home_border q l e) in
      let lp = prev_in q l in
      rw (home_inner q l m, edges.home l)
      (edges.out (q.ruled.paired.below (PREV h) lp m)
      ∙ rw (q.ruled.numbered.twin_same (PREV h) lp m, above_one lp m, first_not (above c.twin (PREV h))))

  -- ---- who carries a new edge

  -- halfedges of one edge: g is h, or its twin that has the other half
  data Sides (g h : ℕ) : Type 0 where
    one : g ≡ h → Sides g h
    two : g ≡ TWIN c h → TWIN c h ≢ marker → first_half c g ≡ second_half c h → second_half c g ≡ first_half c h → Sides g h

  sides : {g h : ℕ} → g < H c → h < H c → EDGE c g ≡ EDGE c h → Sides g h
  sides {g} {h} lg lh e = by (q.ruled.numbered.own g h lg lh e)
    where
      by : (g ≡ h) ⊎ (g ≡ TWIN c h) → Sides g h
      by (inl i) = one i
      by (inr i) =
          let n : TWIN c h ≢ marker = rw (← i) (omega arith) in
          let a = ap (above c.twin) i ∙ above_one lh n in
          two i n (ap first a ∙ first_not (above c.twin h)) (ap second a ∙ second_not (above c.twin h))

  first_same : {g h : ℕ} → Sides g h → first_half c g ≡ first_half c h → g ≡ h
  first_same (one i) e = i
  first_same {g} {h} (two i n a b) e = absurd (omega (arith, halves (above c.twin h)))

  second_same : {g h : ℕ} → Sides g h → second_half c g ≡ second_half c h → g ≡ h
  second_same (one i) e = i
  second_same {g} {h} (two i n a b) e = absurd (omega (arith, halves (above c.twin h)))

  crossed : {g h : ℕ} → Sides g h → first_half c g ≡ second_half c h → (g ≡ TWIN c h) × (TWIN c h ≢ marker)
  crossed {g} {h} (one i) e = absurd (omega (arith, halves (above c.twin h), ap (first_half c) i))
  crossed (two i n a b) e = (i, n)

  out_home : {g h : ℕ} → g < H c → h < H c → EDGE (finer c v) (3 * g) ≡ EDGE (finer c v) (3 * h + 2) → 3 * g ≡ TWIN (finer c v) (3 * h + 2)
  out_home {g} {h} lg lh e =
      let a = edges.out lg in
      let b = edges.home lh in
      let same : EDGE c g ≡ EDGE c (PREV h) = omega (arith, halves (above c.twin g), halves (above c.twin (PREV h))) in
      let t = crossed (sides lg (prev_in q lh) same) (omega arith) in
      ap (λ x. 3 * x) t.0 ∙ sym (home_inner q lh t.1)

  -- TWIN leads back
  home_out : {g h : ℕ} → g < H c → h < H c → EDGE (finer c v) (3 * h + 2) ≡ EDGE (finer c v) (3 * g) → 3 * h + 2 ≡ TWIN (finer c v) (3 * g)
  home_out {g} {h} lg lh e =
      let t = out_home lg lh (sym e) in
      sym (ap (TWIN (finer c v)) t ∙ (next_paired q).back (3 * h + 2) (rw (length-twins q) (omega arith)) (rw (← t) (omega arith)))

  out_out : {g h : ℕ} → g < H c → h < H c → EDGE (finer c v) (3 * g) ≡ EDGE (finer c v) (3 * h) → 3 * g ≡ 3 * h
  out_out {g} {h} lg lh e =
      let a = edges.out lg in
      let b = edges.out lh in
      let same : EDGE c g ≡ EDGE c h = omega (arith, halves (above c.twin g), halves (above c.twin h)) in
      ap (λ x. 3 * x) (first_same (sides lg lh same) (omega arith))

  home_home : {g h : ℕ} → g < H c → h < H c → EDGE (finer c v) (3 * g + 2) ≡ EDGE (finer c v) (3 * h + 2) → 3 * g + 2 ≡ 3 * h + 2
  home_home {g} {h} lg lh e =
      let a = edges.home lg in
      let b = edges.home lh in
      let same : EDGE c (PREV g) ≡ EDGE c (PREV h) = omega (arith, halves (above c.twin (PREV g)), halves (above c.twin (PREV h))) in
      let i = second_same (sides (prev_in q lg) (prev_in q lh) same) (omega arith) in
      ap (λ x. 3 * x + 2) (sym (next_prev g) ∙ ap NEXT i ∙ next_prev h)

  own : {j k : ℕ} → Row (H c) j → Row (H c) k → EDGE (finer c v) j ≡ EDGE (finer c v) k → (j ≡ k) ⊎ (j ≡ TWIN (finer c v) k)
  own (out lg) (out lh) e = inl (out_out lg lh e)
  own (out lg) (across lh) e = absurd (omega (arith, low_out lg, edges.across lh))
  own (out lg) (home lh) e = inr (out_home lg lh e)
  own (out lg) (middle lh) e = absurd (omega (arith, low_out lg, edges.middle lh))
  own (across lg) (out lh) e = absurd (omega (arith, low_out lh, edges.across lg))
  own (across lg) (across lh) e = inl (omega (arith, edges.across lg, edges.across lh))
  own (across lg) (home lh) e = absurd (omega (arith, low_home lh, edges.across lg))
  own (across lg) (middle lh) e = inr (omega (arith, edges.across lg, edges.middle lh, middle_twin q lh))
  own (home lg) (out lh) e = inr (home_out lh lg e)
  own (home lg) (across lh) e = absurd (omega (arith, low_home lg, edges.across lh))
  own (home lg) (home lh) e = inl (home_home lg lh e)
  own (home lg) (middle lh) e = absurd (omega (arith, low_home lg, edges.middle lh))
  own (middle lg) (out lh) e = absurd (omega (arith, low_out lh, edges.middle lg))
  own (middle lg) (across lh) e = inr (omega (arith, edges.middle lg, edges.across lh, across_twin q lh))
  own (middle lg) (home lh) e = absurd (omega (arith, low_home lh, edges.middle lg))
  own (middle lg) (middle lh) e = inl (omega (arith, edges.middle lg, edges.middle lh))

  pub next-numbered : Numbered (finer c v).twin (finer c v).edge
  next-numbered =
      record {
        below = λ k l. rw (next_edges_lem q) (below (row l));
        twin_same = λ k l n. twin_same (row l) n;
        own = λ j k lj lk e. own (row lj) (row lk) e;
      }
    where
      row : {k : ℕ} → k < length (finer c v).twin → Row (H c) k
      row l = row_of (rw (length-twins q) at l)
