-- Edges numbered by the order of their lowest halfedge keep rule 6 where the twins keep rule 3: `edges_numbered`. Assumes nothing.
use Prim.Native.Nat.{ℕ, ◌≤◌, ◌<◌}
use mathlib.Core.Path.{◌≡◌, sym, ap, ◌∙◌}
use mathlib.Core.Logic.{◌≢◌, ◌⊎◌, inl, inr}
use mathlib.Core.Bool.{true, false, cond}
use mathlib.Core.List.{List}
use native.Mathlib.Decide.{ℕ_discrete, dec_lt}
use native.Mathlib.Omega.{arith}
use lib.ListN.{length}
use borrow.Author.Tests.{ne_eqb}
use Rattle.laws.specs.Below.{count}
use Rattle.laws.proofs.Tests.{by-test}
use Rattle.laws.proofs.Sums.{sum_same}
use Rattle.laws.proofs.Select.{count_before}
use Rattle.laws.proofs.Turnings.{sum-turned}
use Rattle.laws.proofs.Tabulate.{get_d_tabulate}
use Rattle.halfedges.specs.Cage.{marker, cell, above, E}
use Rattle.tables.specs.Ruled.{Paired, Numbered}
use Rattle.tables.proofs.EdgeCount.{above-border, partner, partner_border, partner_inner, pairing}
use Rattle.triangles.specs.Plain.{is_lowest, lowest_of, edge_of, edge_table}
use Rattle.triangles.proofs.Numbering.{is_lowest_lem, not_lowest, lowest_below, lower_twin}

module _ (twin : List ℕ) (p : Paired twin) (small : length twin ≤ marker) where
  lowest_self : (h : ℕ) → is_lowest twin h ≡ true → lowest_of twin h ≡ h
  unfolding lowest_of
  lowest_self h e = rw e

  lowest_twin : (h : ℕ) → is_lowest twin h ≡ false → lowest_of twin h ≡ cell twin h
  unfolding lowest_of
  lowest_twin h e = rw e

  -- a halfedge that is not the lowest has a twin
  has_twin : (h : ℕ) → h < length twin → is_lowest twin h ≡ false → cell twin h ≢ marker
  has_twin h l f e = omega (arith, (lower_twin twin p small h l f).0)

  lowest_low : (h : ℕ) → h < length twin → (lowest_of twin h < length twin) × (is_lowest twin (lowest_of twin h) ≡ true)
  lowest_low h l =
      by-test (is_lowest twin h)
      (λ t. rw (lowest_self h t) (l, t))
      (λ f. let m = lower_twin twin p small h l f in rw (lowest_twin h f) (omega (arith, m.0), m.1))

  -- of two twins the lowest is the same
  lowest_same : (h : ℕ) → h < length twin → cell twin h ≢ marker → lowest_of twin (cell twin h) ≡ lowest_of twin h
  lowest_same h l n =
      by-test (is_lowest twin h)
      (λ t.
      lowest_twin (cell twin h) (not_lowest twin (cell twin h) (omega (arith, p.below h l n)) (rw (p.back h l n) (omega (arith, lowest_below twin h (omega arith) t))))
      ∙ p.back h l n
      ∙ sym (lowest_self h t))
      (λ f. lowest_self (cell twin h) (lower_twin twin p small h l f).1 ∙ sym (lowest_twin h f))

  -- and those with the same lowest are the same or twins
  same_or_twin : (g h : ℕ) → g < length twin → h < length twin → lowest_of twin g ≡ lowest_of twin h → (g ≡ h) ⊎ (g ≡ cell twin h)
  same_or_twin g h lg lh e =
      by-test (is_lowest twin g)
      (λ tg. by-test (is_lowest twin h)
      (λ th. inl (sym (lowest_self g tg) ∙ e ∙ lowest_self h th))
      (λ fh. inr (sym (lowest_self g tg) ∙ e ∙ lowest_twin h fh)))
      (λ fg. by-test (is_lowest twin h)
      (λ th. inr (back g lg fg ∙ ap (cell twin) (sym (lowest_twin g fg) ∙ e ∙ lowest_self h th)))
      (λ fh. inl (back g lg fg ∙ ap (cell twin) (sym (lowest_twin g fg) ∙ e ∙ lowest_twin h fh) ∙ sym (back h lh fh))))
    where
      back : (k : ℕ) → k < length twin → is_lowest twin k ≡ false → k ≡ cell twin (cell twin k)
      back k l f = sym (p.back k l (has_twin k l f))

  -- ---- as many are lowest as stand above: one of two twins

  above_twin : (h : ℕ) → h < length twin → cell twin h ≢ marker → above twin (cell twin h) ≡ is_lowest twin h
  unfolding above is_lowest
  above_twin h l n = rw (p.back h l n, ne_eqb h marker (omega arith), ne_eqb (cell twin h) marker n)

  above_partner : (h : ℕ) → h < length twin → above twin (partner twin h) ≡ is_lowest twin h
  above_partner h l = by (ℕ_discrete (cell twin h) marker)
    where
      by : Dec (cell twin h ≡ marker) → above twin (partner twin h) ≡ is_lowest twin h
      by (yes m) = rw (partner_border twin h m, above-border twin h m) (sym (is_lowest_lem twin h (omega arith)))
      by (no n) = rw (partner_inner twin h n) (above_twin h l n)

  count-lowest : count (length twin) (is_lowest twin) ≡ E twin
  unfolding E
  count-lowest =
      sum_same (length twin) (λ h. cond (is_lowest twin h) 1 0) (λ h. cond (above twin (partner twin h)) 1 0) (λ h l. rw (above_partner h l))
      ∙ sum-turned (length twin) (partner twin) (partner twin) (λ h. cond (above twin h) 1 0) (pairing twin small p)

  -- ---- the numbers

  edge_below : (h : ℕ) → h < length twin → edge_of twin h < E twin
  unfolding edge_of
  edge_below h l = let m = lowest_low h l in omega (arith, count_before (is_lowest twin) (lowest_of twin h) (length twin) m.0 m.1, count-lowest)

  -- different lowest halfedges, different numbers
  not_below : (g h : ℕ) → g < length twin → edge_of twin g ≡ edge_of twin h → lowest_of twin g < lowest_of twin h → ⊥
  unfolding edge_of
  not_below g h l e b = omega (arith, count_before (is_lowest twin) (lowest_of twin g) (lowest_of twin h) b (lowest_low g l).1)

  edge_own : (g h : ℕ) → g < length twin → h < length twin → edge_of twin g ≡ edge_of twin h → (g ≡ h) ⊎ (g ≡ cell twin h)
  edge_own g h lg lh e = same_or_twin g h lg lh (by (dec_lt (lowest_of twin g) (lowest_of twin h)) (dec_lt (lowest_of twin h) (lowest_of twin g)))
    where
      by : Dec (lowest_of twin g < lowest_of twin h) → Dec (lowest_of twin h < lowest_of twin g) → lowest_of twin g ≡ lowest_of twin h
      by (yes b) d = absurd (not_below g h lg e b)
      by (no b) (yes d) = absurd (not_below h g lh (sym e) d)
      by (no b) (no d) = omega (arith, b, d)

  edge_same : (h : ℕ) → h < length twin → cell twin h ≢ marker → edge_of twin (cell twin h) ≡ edge_of twin h
  unfolding edge_of
  edge_same h l n = ap (λ k. count k (is_lowest twin)) (lowest_same h l n)

  at : (h : ℕ) → h < length twin → cell (edge_table twin) h ≡ edge_of twin h
  at h l = get_d_tabulate (length twin) (edge_of twin) h 0 l

  pub edges_numbered : Numbered twin (edge_table twin)
  edges_numbered =
      record {
        below = λ h l. rw (at h l) (edge_below h l);
        twin_same = λ h l n. at (cell twin h) (p.below h l n) ∙ edge_same h l n ∙ sym (at h l);
        own = λ g h lg lh e. edge_own g h lg lh (sym (at g lg) ∙ e ∙ at h lh);
      }
