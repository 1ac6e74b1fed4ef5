-- Edges numbered by the order of their lowest halfedge. Assumes nothing.
--     is_lowest_lem, not_lowest     whether a halfedge is its edge's lowest, by its TWIN as a number: the marker is above every halfedge
--     lowest_below              and back
--     lower_twin                by rule 3, where a halfedge is not the lowest, its twin is
--     edge_on                   by rule 3, one halfedge more is numbered in front of a lent table
use Prim.Native.Nat.{ℕ, ◌+◌, ◌≤◌, ◌<◌}
use mathlib.Core.Path.{◌≡◌, sym, ap, ◌∙◌}
use mathlib.Core.Logic.{◌≢◌}
use mathlib.Core.Bool.{true, false, cond, true≢false}
use mathlib.Core.List.{List}
use native.Mathlib.Decide.{dec_lt}
use native.Mathlib.Omega.{arith}
use lib.ListN.{length, set, drop, get_or-append}
use borrow.Author.Tests.{ne_eqb, lt-ltb, le-ltb}
use Rattle.laws.specs.Below.{tabulate, count}
use Rattle.laws.specs.Parts.{in_front}
use Rattle.laws.proofs.Tests.{by-test, or_true}
use Rattle.laws.proofs.Tabulate.{length-tabulate, get_d_tabulate}
use Rattle.laws.proofs.Filling.{over_next}
use Rattle.halfedges.specs.Cage.{marker, cell, border}
use Rattle.tables.specs.Ruled.{Paired}
use Rattle.triangles.specs.Plain.{is_lowest, lowest_of, edge_of}

module _ (twin : List ℕ) where
  pub is_lowest_lem : (h : ℕ) → h < cell twin h → is_lowest twin h ≡ true
  unfolding is_lowest
  is_lowest_lem h l = rw (lt-ltb h (cell twin h) l) (or_true (border twin h))

  pub not_lowest : (h : ℕ) → h < marker → cell twin h ≤ h → is_lowest twin h ≡ false
  unfolding is_lowest
  not_lowest h m l = rw (ne_eqb (cell twin h) marker (λ e. omega arith), le-ltb h (cell twin h) l)

  pub lowest_below : (h : ℕ) → h < marker → is_lowest twin h ≡ true → h < cell twin h
  lowest_below h m e = by (dec_lt h (cell twin h))
    where
      by : Dec (h < cell twin h) → h < cell twin h
      by (yes l) = l
      by (no l) = absurd (true≢false (sym e ∙ not_lowest h m (omega (arith, l))))

  twin_lower : (h : ℕ) → is_lowest twin h ≡ false → cell twin h ≤ h
  twin_lower h e = by (dec_lt h (cell twin h))
    where
      by : Dec (h < cell twin h) → cell twin h ≤ h
      by (yes l) = absurd (true≢false (sym (is_lowest_lem h l) ∙ e))
      by (no l) = omega (arith, l)

  edge_lowest : (h : ℕ) → is_lowest twin h ≡ true → edge_of twin h ≡ count h (is_lowest twin)
  unfolding edge_of lowest_of
  edge_lowest h e = rw e

  edge_other : (h : ℕ) → is_lowest twin h ≡ false → edge_of twin h ≡ count (cell twin h) (is_lowest twin)
  unfolding edge_of lowest_of
  edge_other h e = rw e

  module _ (p : Paired twin) (small : length twin ≤ marker) where
    pub lower_twin : (h : ℕ) → h < length twin → is_lowest twin h ≡ false → (cell twin h < h) × (is_lowest twin (cell twin h) ≡ true)
    lower_twin h l e =
        let b = twin_lower h e in
        let n : cell twin h ≢ marker = λ q. omega arith in
        let t : cell twin h < h = omega (arith, p.other h l n) in
        (t, is_lowest_lem (cell twin h) (rw (p.back h l n) t))

    -- what the code stores is the edge
    stored : (d l : List ℕ) (h edges : ℕ) → h < length twin → edges ≡ count h (is_lowest twin) → l ≡ in_front (tabulate h (edge_of twin)) d → cond (is_lowest twin h) edges (cell l (cell twin h)) ≡ edge_of twin h
    stored d l h edges b e q =
        by-test (is_lowest twin h)
        (λ t. rw t (e ∙ sym (edge_lowest h t)))
        (λ f. rw f (earlier f (lower_twin h b f)))
      where
        earlier : is_lowest twin h ≡ false → (cell twin h < h) × (is_lowest twin (cell twin h) ≡ true) → cell l (cell twin h) ≡ edge_of twin h
        earlier f t =
            ap (λ x. cell x (cell twin h)) q
            ∙ get_or-append (tabulate h (edge_of twin)) (drop (length (tabulate h (edge_of twin))) d) 0 (cell twin h) (rw (length-tabulate h (edge_of twin)) t.0)
            ∙ get_d_tabulate h (edge_of twin) (cell twin h) 0 t.0
            ∙ edge_lowest (cell twin h) t.1
            ∙ sym (edge_other h f)

    pub edge_on : (d l : List ℕ) {l' : List ℕ} (h edges : ℕ) → h < length twin → h < length l → edges ≡ count h (is_lowest twin) → l ≡ in_front (tabulate h (edge_of twin)) d → l' ≡ set l h (cond (is_lowest twin h) edges (cell l (cell twin h))) → l' ≡ in_front (tabulate (h + 1) (edge_of twin)) d
    edge_on d l h edges b c e q r = r ∙ over_next d l (edge_of twin) h _ c q (stored d l h edges b e q)
