-- Corners at the next level's vertices.
--     old_corners                        an old vertex keeps its corners
--     was_on_border, still_on_border     and is on a border where it was
--     new_vertex                         an edge's vertex has six corners inside and three on a border
-- Assumes nothing.
use Prim.Native.Nat.{ℕ, ◌+◌, ◌-◌, ◌*◌, ◌≤◌, ◌<◌}
use mathlib.Core.Path.{◌≡◌, sym, ap, ap₂, subst, ◌∙◌}
use mathlib.Core.Logic.{◌≢◌, ◌⊎◌, inl, inr, ⊎_elim}
use mathlib.Core.Bool.{cond}
use native.Mathlib.Decide.{ℕ_discrete}
use native.Mathlib.Omega.{arith}
use lib.Dec.{eqb}
use borrow.Author.Tests.{eq-eqb, ne_eqb}
use Rattle.laws.specs.Below.{sum, count}
use Rattle.laws.proofs.Tests.{same_eqb}
use Rattle.laws.proofs.Sums.{sum_same, sum_add, sum_none, sum_at_lem}
use Rattle.laws.proofs.Turnings.{turned_back, sum-turned}
use Rattle.halfedges.specs.Cage.{NEXT, PREV, marker, E}
use Rattle.tables.specs.Tables.{Tables}
use Rattle.halfedges.proofs.Triangle.{next_0, next_2, prev_next, next_prev, round}
use Rattle.tables.proofs.EdgeCount.{carried}
use Rattle.invariance.specs.Invariance.{corners_at, OnBorder, Added}
use Rattle.invariance.proofs.Rows.{Row, out, across, home, middle, row_of, sum_rows}
use Rattle.invariance.proofs.Refinable.{H, TWIN, VERT, EDGE, finer, Refinable, next_in, prev_in, length-twins, vert_rows}
use Rattle.invariance.proofs.NextTwins.{out_border, home_border, out_on_border, across_inner, home_on_border, middle-inner}

-- one where x is u
abbrev one : ℕ → ℕ → ℕ
one u x = cond (eqb x u) 1 0

module _ {c : Tables} {v : ℕ} (q : Refinable c v) where
  -- the new corners at u: in the new triangle at h's vertex, and in the middle
  abbrev outer : ℕ → ℕ → ℕ
  outer u h = one u (VERT c h) + one u (v + EDGE c h) + one u (v + EDGE c (PREV h))

  abbrev inner : ℕ → ℕ → ℕ
  inner u h = one u (v + EDGE c (PREV h))

  by_rows : (u : ℕ) → corners_at (finer c v) u ≡ sum (H c) (outer u) + sum (H c) (inner u)
  unfolding corners_at
  by_rows u =
      rw (length-twins q)
      (sum_rows (H c) (λ k. one u (VERT (finer c v) k))
      ∙ ap₂ ◌+◌
      (sum_same (H c) _ (outer u) (λ h l. ap₂ ◌+◌ (ap₂ ◌+◌ (ap (one u) ((vert_rows q).out l)) (ap (one u) ((vert_rows q).across l))) (ap (one u) ((vert_rows q).home l))))
      (sum_same (H c) _ (inner u) (λ h l. ap (one u) ((vert_rows q).middle l))))

  pub old_corners : (u : ℕ) → u < v → corners_at (finer c v) u ≡ corners_at c u
  unfolding corners_at
  old_corners u l =
      by_rows u
      ∙ omega (
        arith,
        sum_same (H c) (outer u) (λ h. one u (VERT c h)) (λ h lh. rw (ne_eqb (v + EDGE c h) u (omega arith), ne_eqb (v + EDGE c (PREV h)) u (omega arith)) (omega arith)),
        sum_none (H c) (inner u) (λ h lh. rw (ne_eqb (v + EDGE c (PREV h)) u (omega arith))),
      )

  -- the halfedges that carry e
  carriers : ℕ → ℕ
  carriers e = count (H c) (λ h. eqb (EDGE c h) e)

  new_corners : (e : ℕ) → corners_at (finer c v) (v + e) ≡ 3 * carriers e
  unfolding carriers
  new_corners e =
      by_rows (v + e)
      ∙ omega (
        arith,
        sum_same (H c) (outer (v + e)) (λ h. carries h + carries (PREV h))
            (λ h l. rw (ne_eqb (VERT c h) (v + e) (omega (arith, q.ruled.placed.below h l)), past (EDGE c h), past (EDGE c (PREV h))) (omega arith)),
        sum_add (H c) carries (λ h. carries (PREV h)),
        sum_same (H c) (inner (v + e)) (λ h. carries (PREV h)) (λ h l. rw (past (EDGE c (PREV h)))),
        sum-turned (H c) PREV NEXT carries (turned_back (round q.shaped.whole)),
      )
    where
      carries : ℕ → ℕ
      carries h = one e (EDGE c h)

      past : (x : ℕ) → eqb (v + x) (v + e) ≡ eqb x e
      past x = same_eqb (v + x) (v + e) x e (omega arith) (omega arith)

  module _ {h : ℕ} (l : h < H c) where
    border-corners : TWIN c h ≡ marker → corners_at (finer c v) (v + EDGE c h) ≡ 3
    unfolding carriers
    border-corners m =
        new_corners (EDGE c h)
        ∙ omega (
          arith,
          sum_same (H c) (λ g. one (EDGE c h) (EDGE c g)) (one h)
              (λ g lg. rw (same_eqb (EDGE c g) (EDGE c h) g h (λ e. alone g lg (q.ruled.numbered.own g h lg l e)) (λ e. ap (EDGE c) e))),
          sum_at_lem (H c) h (λ g. 1) l,
        )
      where
        alone : (g : ℕ) → g < H c → (g ≡ h) ⊎ (g ≡ TWIN c h) → g ≡ h
        alone g lg (inl i) = i
        alone g lg (inr i) = absurd (omega arith)

    inner-corners : TWIN c h ≢ marker → corners_at (finer c v) (v + EDGE c h) ≡ 6
    unfolding carriers
    inner-corners n =
        new_corners (EDGE c h)
        ∙ omega (
          arith,
          sum_same (H c) (λ g. one (EDGE c h) (EDGE c g)) (λ g. one h g + one (TWIN c h) g) (λ g lg. both g lg (ℕ_discrete g h) (ℕ_discrete g (TWIN c h))),
          sum_add (H c) (one h) (one (TWIN c h)),
          sum_at_lem (H c) h (λ g. 1) l,
          sum_at_lem (H c) (TWIN c h) (λ g. 1) (q.ruled.paired.below h l n),
        )
      where
        both : (g : ℕ) → g < H c → Dec (g ≡ h) → Dec (g ≡ TWIN c h) → one (EDGE c h) (EDGE c g) ≡ one h g + one (TWIN c h) g
        both g lg (yes i) (yes j) = absurd (q.ruled.paired.other h l n (sym j ∙ i))
        both g lg (yes i) (no j) = rw (eq-eqb (EDGE c g) (EDGE c h) (ap (EDGE c) i), eq-eqb g h i, ne_eqb g (TWIN c h) j)
        both g lg (no i) (yes j) =
            rw (eq-eqb (EDGE c g) (EDGE c h) (ap (EDGE c) j ∙ q.ruled.numbered.twin_same h l n), ne_eqb g h i, eq-eqb g (TWIN c h) j)
        both g lg (no i) (no j) =
            rw (ne_eqb (EDGE c g) (EDGE c h) (λ e. ⊎_elim i j (q.ruled.numbered.own g h lg l e)), ne_eqb g h i, ne_eqb g (TWIN c h) j)

  -- ---- the border

  -- a border halfedge p of the old level leaves u, ends there, or has its edge's vertex there
  data Came (u : ℕ) : Type 0 where
    leaving : {p : ℕ} → p < H c → TWIN c p ≡ marker → VERT c p ≡ u → Came u
    ending : {p : ℕ} → p < H c → TWIN c p ≡ marker → VERT c (NEXT p) ≡ u → Came u
    amid : {p : ℕ} → p < H c → TWIN c p ≡ marker → v + EDGE c p ≡ u → Came u

  came : {u k : ℕ} → Row (H c) k → TWIN (finer c v) k ≡ marker → (VERT (finer c v) k ≡ u) ⊎ (VERT (finer c v) (NEXT k) ≡ u) → Came u
  came (out l) m (inl e) = leaving l (out_on_border q l m) (sym ((vert_rows q).out l) ∙ e)
  came (out {h} l) m (inr e) = amid l (out_on_border q l m) (sym ((vert_rows q).across l) ∙ (rw (next_0 h) at e))
  came (across l) m e = absurd (across_inner q l m)
  came (home l) m (inl e) = amid (prev_in q l) (home_on_border q l m) (sym ((vert_rows q).home l) ∙ e)
  came (home {h} l) m (inr e) = ending (prev_in q l) (home_on_border q l m) (ap (VERT c) (next_prev h) ∙ sym ((vert_rows q).out l) ∙ (rw (next_2 h) at e))
  came (middle l) m e = absurd (middle-inner q l m)

  border_came : (u : ℕ) → OnBorder (finer c v) u → Came u
  border_came u b = came (row_of (rw (length-twins q) at b.1)) b.2 b.3

  pub was_on_border : (u : ℕ) → u < v → OnBorder (finer c v) u → OnBorder c u
  was_on_border u l b = by (border_came u b)
    where
      by : Came u → OnBorder c u
      by (leaving {p = p} lp m e) = (p, lp, m, inl e)
      by (ending {p = p} lp m e) = (p, lp, m, inr e)
      by (amid lp m e) = absurd (omega arith)

  pub still_on_border : (u : ℕ) → OnBorder c u → OnBorder (finer c v) u
  still_on_border u b = by b.0 b.1 b.2 b.3
    where
      by : (h : ℕ) → h < H c → TWIN c h ≡ marker → (VERT c h ≡ u) ⊎ (VERT c (NEXT h) ≡ u) → OnBorder (finer c v) u
      by h l m (inl e) = (3 * h, rw (length-twins q) (omega arith), out_border q l m, inl ((vert_rows q).out l ∙ e))
      by h l m (inr e) =
          let ln = next_in q l in
          (3 * NEXT h + 2, rw (length-twins q) (omega arith), home_border q ln (rw (prev_next h) m), inr (rw (next_2 (NEXT h)) ((vert_rows q).out ln ∙ e)))

  edge_vertex : {h : ℕ} → h < H c → Dec (TWIN c h ≡ marker) → Added (finer c v) (v + EDGE c h)
  edge_vertex {h} l (yes m) =
      record {
        inside = λ n. absurd (n (3 * h, rw (length-twins q) (omega arith), out_border q l m, inr (rw (next_0 h) ((vert_rows q).across l))));
        on_border = λ b. border-corners l m;
      }
  edge_vertex {h} l (no n) = record { inside = λ b. inner-corners l n; on_border = λ b. absurd (by (border_came _ b)) }
    where
      has_twin : {p : ℕ} → TWIN c p ≡ marker → (p ≡ h) ⊎ (p ≡ TWIN c h) → ⊥
      has_twin m (inl i) = n (ap (TWIN c) (sym i) ∙ m)
      has_twin m (inr i) = omega (arith, sym (ap (TWIN c) i ∙ q.ruled.paired.back h l n) ∙ m)

      by : Came (v + EDGE c h) → ⊥
      by (leaving {p = p} lp m e) = omega (arith, q.ruled.placed.below p lp)
      by (ending {p = p} lp m e) = omega (arith, q.ruled.placed.below (NEXT p) (next_in q lp))
      by (amid {p = p} lp m e) = has_twin m (q.ruled.numbered.own p h lp l (omega arith))

  pub new_vertex : (u : ℕ) → v ≤ u → u < v + E c.twin → Added (finer c v) u
  new_vertex u a b =
      let g = carried c.twin (omega arith) q.ruled.paired c.edge q.ruled.numbered (u - v) (omega arith) in
      subst (Added (finer c v)) (let e : v + EDGE c g.0 ≡ u = omega (arith, g.2) in e) (edge_vertex g.1 (ℕ_discrete (TWIN c g.0) marker))
