-- Edges, counted. In tables of at most as many halfedges as the marker:
--     edges_at_most                no more than halfedges, in any tables
--     twin_has_twin                TWIN leads back
--     above-border, above_twin     a halfedge without twin stands above, and of two twins one does
--     partner, pairing             the twin, or where there is none the halfedge itself: a turning
--     twice_edges                  2E = H + B by rule 3, since TWIN pairs all halfedges but those on the border
--     carried                      with rule 6 every edge number below E is carried: those that stand above carry E different ones
--     count_shaped                 the counts of tables that pass the rules have the shape that the count question wants
-- Assumes nothing.
use Prim.Native.Nat.{ℕ, ◌+◌, ◌*◌, ◌%◌, ◌≤◌, ◌<◌}
use mathlib.Core.Path.{◌≡◌, refl, sym, ap, ◌∙◌}
use mathlib.Core.Logic.{◌≢◌, ◌⊎◌, inl, inr}
use mathlib.Core.Bool.{Bool, true, false, cond, not, true≢false}
use mathlib.Core.List.{List}
use native.Mathlib.Decide.{ℕ_discrete, dec_lt}
use native.Mathlib.Omega.{arith}
use lib.Dec.{ltb}
use lib.ListN.{length}
use borrow.Author.Tests.{eq-eqb, ne_eqb, lt-ltb, le-ltb}
use Rattle.laws.proofs.Sums.{sum_same, sum_add, sum_ones}
use Rattle.laws.proofs.Counts.{count_at_most}
use Rattle.laws.proofs.Turnings.{Turning, sum-turned}
use Rattle.laws.proofs.Pigeonhole.{onto}
use Rattle.halfedges.specs.Cage.{marker, cell, border, above, E, B}
use Rattle.halfedges.specs.Counts.{count_shape}
use Rattle.tables.specs.Tables.{Tables, counts_of}
use Rattle.tables.specs.Ruled.{Shaped, Paired, Numbered, Ruled}

pub edges_at_most : (twin : List ℕ) → E twin ≤ length twin
unfolding E
edges_at_most twin = count_at_most (length twin) (above twin)

pub above-border : (twin : List ℕ) (h : ℕ) → cell twin h ≡ marker → above twin h ≡ true
unfolding above
above-border twin h m = rw (eq-eqb (cell twin h) marker m)

above-inner : (twin : List ℕ) (h : ℕ) → cell twin h ≢ marker → above twin h ≡ ltb (cell twin h) h
unfolding above
above-inner twin h n = rw (ne_eqb (cell twin h) marker n)

-- of two numbers one is lower
one_lower : (a b : ℕ) → a ≢ b → ltb b a ≡ not (ltb a b)
one_lower a b d = by (dec_lt a b)
  where
    by : Dec (a < b) → ltb b a ≡ not (ltb a b)
    by (yes l) = rw (lt-ltb a b l, le-ltb b a (omega arith))
    by (no l) = rw (le-ltb a b (omega (arith, l)), lt-ltb b a (omega (arith, l, d)))

-- h's twin, and h itself where it has none
pub partner : List ℕ → ℕ → ℕ
partner twin h = cond (border twin h) h (cell twin h)

module _ (twin : List ℕ) where
  pub partner_border : (h : ℕ) → cell twin h ≡ marker → partner twin h ≡ h
  unfolding partner
  partner_border h m = rw (eq-eqb (cell twin h) marker m)

  pub partner_inner : (h : ℕ) → cell twin h ≢ marker → partner twin h ≡ cell twin h
  unfolding partner
  partner_inner h n = rw (ne_eqb (cell twin h) marker n)

module _ (twin : List ℕ) (small : length twin ≤ marker) (p : Paired twin) where
  -- a twin has a twin
  pub twin_has_twin : (h : ℕ) → h < length twin → cell twin h ≢ marker → cell twin (cell twin h) ≢ marker
  twin_has_twin h l n = rw (p.back h l n) (omega arith)

  pub above_twin : (h : ℕ) → h < length twin → cell twin h ≢ marker → above twin (cell twin h) ≡ not (above twin h)
  above_twin h l n =
      rw (above-inner twin h n, above-inner twin (cell twin h) (twin_has_twin h l n), p.back h l n) (one_lower (cell twin h) h (p.other h l n))

  pub pairing : Turning (length twin) (partner twin) (partner twin)
  pairing = record { below = below; back_below = below; back = back; forth = back }
    where
      below : (h : ℕ) → h < length twin → partner twin h < length twin
      below h l = by (ℕ_discrete (cell twin h) marker)
        where
          by : Dec (cell twin h ≡ marker) → partner twin h < length twin
          by (yes m) = rw (partner_border twin h m) l
          by (no n) = rw (partner_inner twin h n) (p.below h l n)

      back : (h : ℕ) → h < length twin → partner twin (partner twin h) ≡ h
      back h l = by (ℕ_discrete (cell twin h) marker)
        where
          by : Dec (cell twin h ≡ marker) → partner twin (partner twin h) ≡ h
          by (yes m) = rw (partner_border twin h m) (partner_border twin h m)
          by (no n) = rw (partner_inner twin h n) (partner_inner twin (cell twin h) (twin_has_twin h l n) ∙ p.back h l n)

  pub twice_edges : 2 * E twin ≡ length twin + B twin
  unfolding E B
  twice_edges =
      omega (
        arith,
        sum-turned (length twin) (partner twin) (partner twin) one pairing,
        sum_add (length twin) one (λ h. one (partner twin h)),
        sum_same (length twin) (λ h. one h + one (partner twin h)) (λ h. 1 + cond (border twin h) 1 0) (λ h l. both h l (ℕ_discrete (cell twin h) marker)),
        sum_add (length twin) (λ h. 1) (λ h. cond (border twin h) 1 0),
        sum_ones (length twin),
      )
    where
      one : ℕ → ℕ
      one h = cond (above twin h) 1 0

      either : (b : Bool) → cond b 1 0 + cond (not b) 1 0 ≡ 1
      either true = refl
      either false = refl

      both : (h : ℕ) → h < length twin → Dec (cell twin h ≡ marker) → one h + one (partner twin h) ≡ 1 + cond (border twin h) 1 0
      both h l (yes m) = rw (partner_border twin h m, above-border twin h m, eq-eqb (cell twin h) marker m)
      both h l (no n) = rw (partner_inner twin h n, above_twin h l n, ne_eqb (cell twin h) marker n) (either (above twin h))

  pub carried : (edge : List ℕ) → Numbered twin edge → (e : ℕ) → e < E twin → (h : ℕ) × (h < length twin) × (cell edge h ≡ e)
  unfolding E
  carried edge q e l = let c = onto (length twin) (E twin) (above twin) (cell edge) (λ h lh a. q.below h lh) same refl e l in (c.0, c.1, c.3)
    where
      same : (g h : ℕ) → g < length twin → h < length twin → above twin g ≡ true → above twin h ≡ true → cell edge g ≡ cell edge h → g ≡ h
      same g h lg lh a b e = by (q.own g h lg lh e) (ℕ_discrete (cell twin h) marker)
        where
          by : (g ≡ h) ⊎ (g ≡ cell twin h) → Dec (cell twin h ≡ marker) → g ≡ h
          by (inl x) d = x
          by (inr x) (yes m) = absurd (omega arith)
          by (inr x) (no n) = absurd (true≢false (sym a ∙ ap (above twin) x ∙ above_twin h lh n ∙ ap not b))

pub count_shaped : (c : Tables) (v : ℕ) → Shaped c → Ruled c v → length c.twin ≤ marker → count_shape (counts_of c v) ≡ false
unfolding count_shape E
count_shaped c v s r small =
    let edges = twice_edges c.twin small r.paired in
    rw (
      ne_eqb (length c.twin) 0 (λ e. omega (arith, s.some)),
      eq-eqb (length c.twin % 3) 0 s.whole,
      ne_eqb v 0 (λ e. omega (arith, r.placed.below 0 s.some)),
      le-ltb (length c.twin) (E c.twin) (count_at_most (length c.twin) (above c.twin)),
      le-ltb (2 * E c.twin) (length c.twin) (omega arith),
    )
