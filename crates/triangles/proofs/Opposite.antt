-- Twins by their directed pairs of vertices. Assumes nothing.
--     runs_ends, ends_run              the ends of a halfedge that runs between two vertices
--     Opposite, opposite, are_twins    g is h's twin: another halfedge, which runs the opposite way
--     no_twin_lem                          TWIN of a halfedge that has none
--     twins_long, twin_at              TWIN has a cell for each corner, and what it is
--     one_runs                         undoubled, a directed pair is on one halfedge at most
--     twin_is, has_twin                TWIN of a halfedge that has a twin, and what stands in TWIN
--     twins_paired                     rule 3 is kept
use Prim.Native.Nat.{ℕ, ◌<◌}
use mathlib.Core.Path.{◌≡◌, sym, ◌∙◌}
use mathlib.Core.Logic.{◌≢◌}
use mathlib.Core.Bool.{true, false, not, ◌&&◌, true≢false}
use mathlib.Core.List.{List}
use native.Mathlib.Decide.{dec_lt}
use native.Mathlib.Omega.{arith}
use lib.Dec.{eqb, ltb}
use lib.ListN.{length}
use borrow.Author.Tests.{eq-eqb, ne_eqb, eqb-true, eqb-false, lt-ltb, not-true}
use Rattle.laws.specs.Below.{any}
use Rattle.laws.proofs.Tests.{by-test, and_true, any_true, true_any, any_false, false_any}
use Rattle.laws.proofs.Lowest.{lowest_is}
use Rattle.laws.proofs.Tabulate.{length-tabulate, get_d_tabulate}
use Rattle.halfedges.specs.Cage.{NEXT, marker, cell}
use Rattle.tables.specs.Ruled.{Paired}
use Rattle.triangles.specs.Plain.{runs, doubled, Undoubled, twins, twin_of, twin_table}

module _ (vert : List ℕ) where
  -- the ends of a halfedge that runs between two vertices
  pub runs_ends : (from to h : ℕ) → runs vert from to h ≡ true → (cell vert h ≡ from) × (cell vert (NEXT h) ≡ to)
  runs_ends from to h e = let b = and_true (eqb (cell vert h) from) _ e in (eqb-true _ _ b.0, eqb-true _ _ b.1)

  pub ends_run : (from to h : ℕ) → cell vert h ≡ from → cell vert (NEXT h) ≡ to → runs vert from to h ≡ true
  ends_run from to h e d = rw (eq-eqb _ _ e, eq-eqb _ _ d)

  -- g is h's twin: another halfedge, which runs the opposite way
  pub record Opposite (h g : ℕ) : Type 0 where
    pub other : g ≢ h
    pub from : cell vert g ≡ cell vert (NEXT h)
    pub to : cell vert (NEXT g) ≡ cell vert h

  pub opposite : (h g : ℕ) → twins vert h g ≡ true → Opposite h g
  unfolding twins
  opposite h g e =
      let b = and_true (not (eqb g h)) _ e in
      let r = runs_ends (cell vert (NEXT h)) (cell vert h) g b.1 in
      record { other = eqb-false g h (not-true _ b.0); from = r.0; to = r.1 }

  pub are_twins : (h g : ℕ) → Opposite h g → twins vert h g ≡ true
  unfolding twins
  are_twins h g o = rw (ne_eqb g h o.other) (ends_run (cell vert (NEXT h)) (cell vert h) g o.from o.to)

  turned : {h g : ℕ} → Opposite h g → Opposite g h
  turned o = record { other = λ e. o.other (sym e); from = sym o.to; to = sym o.from }

  pub no_twin_lem : (h : ℕ) → ((g : ℕ) → g < length vert → twins vert h g ≡ false) → twin_of vert h ≡ marker
  unfolding twin_of
  no_twin_lem h f = rw (false_any (twins vert h) (length vert) f)

  -- the table
  pub twins_long : length (twin_table vert) ≡ length vert
  twins_long = length-tabulate (length vert) (twin_of vert)

  pub twin_at : (h : ℕ) → h < length vert → cell (twin_table vert) h ≡ twin_of vert h
  twin_at h l = get_d_tabulate (length vert) (twin_of vert) h 0 l

  module _ (u : Undoubled vert) where
    -- of two halfedges with the same pair the lower would be doubled
    not_below : (g h : ℕ) → h < length vert → g < h → cell vert g ≡ cell vert h → cell vert (NEXT g) ≡ cell vert (NEXT h) → ⊥
    unfolding doubled
    not_below g h l b e d =
        true≢false (
        sym (true_any (λ k. ltb g k && runs vert (cell vert g) (cell vert (NEXT g)) k) (length vert) h l (rw (lt-ltb g h b) (ends_run (cell vert g) (cell vert (NEXT g)) h (sym e) (sym d))))
        ∙ u.each g (omega arith)
        )

    pub one_runs : (g h : ℕ) → g < length vert → h < length vert → cell vert g ≡ cell vert h → cell vert (NEXT g) ≡ cell vert (NEXT h) → g ≡ h
    one_runs g h lg lh e d = by (dec_lt g h) (dec_lt h g)
      where
        by : Dec (g < h) → Dec (h < g) → g ≡ h
        by (yes b) c = absurd (not_below g h lh b e d)
        by (no b) (yes c) = absurd (not_below h g lg c (sym e) (sym d))
        by (no b) (no c) = omega (arith, b, c)

    pub twin_is : (h g : ℕ) → g < length vert → Opposite h g → twin_of vert h ≡ g
    unfolding twin_of
    twin_is h g l o =
        rw (true_any (twins vert h) (length vert) g l (are_twins h g o))
        (lowest_is (length vert) (twins vert h) g l (are_twins h g o) (λ k b. by-test (twins vert h k) (λ t. absurd (lower k b (opposite h k t))) (λ f. f)))
      where
        lower : (k : ℕ) → k < g → Opposite h k → ⊥
        lower k b p = omega (arith, one_runs k g (omega arith) l (p.from ∙ sym o.from) (p.to ∙ sym o.to))

    -- what stands in TWIN is the marker or a twin
    pub has_twin : (h : ℕ) → twin_of vert h ≢ marker → (twin_of vert h < length vert) × Opposite h (twin_of vert h)
    has_twin h n = by-test (any (length vert) (twins vert h)) some (λ f. absurd (n (no_twin_lem h (any_false (twins vert h) (length vert) f))))
      where
        some : any (length vert) (twins vert h) ≡ true → (twin_of vert h < length vert) × Opposite h (twin_of vert h)
        some t =
            let g = any_true (twins vert h) (length vert) t in
            let o = opposite h g.0 g.2 in
            let e = twin_is h g.0 g.1 o in
            (rw e g.1, rw e o)

    pub twins_paired : Paired (twin_table vert)
    twins_paired =
        record {
          below = λ h l n. rw (twin_at h (in_vert l), twins_long) (has_twin h (there h l n)).0;
          other = λ h l n. rw (twin_at h (in_vert l)) (has_twin h (there h l n)).1.other;
          back = λ h l n. back h (in_vert l) (has_twin h (there h l n));
        }
      where
        in_vert : {h : ℕ} → h < length (twin_table vert) → h < length vert
        in_vert l = rw twins_long at l

        there : (h : ℕ) → h < length (twin_table vert) → cell (twin_table vert) h ≢ marker → twin_of vert h ≢ marker
        there h l n e = n (twin_at h (in_vert l) ∙ e)

        back : (h : ℕ) → h < length vert → (twin_of vert h < length vert) × Opposite h (twin_of vert h) → cell (twin_table vert) (cell (twin_table vert) h) ≡ h
        back h l t = rw (twin_at h l, twin_at (twin_of vert h) t.0) (twin_is (twin_of vert h) h l (turned t.1))
