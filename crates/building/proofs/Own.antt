-- Cages that are built again from their own VERT. Assumes nothing.
--     own_tables      a cage that the check accepts, without doubled pairs and without slits, is
--     own_only        no other is
use Prim.Native.Nat.{ℕ, ◌%◌, ◌≤◌, ◌<◌}
use mathlib.Core.Path.{◌≡◌, refl, sym, ap, ◌∙◌}
use mathlib.Core.Logic.{◌≢◌, ◌⊎◌, inl, inr}
use mathlib.Core.Bool.{true, false, not, ◌&&◌, true≢false}
use mathlib.Core.List.{List}
use native.Mathlib.Decide.{ℕ_discrete}
use native.Mathlib.Omega.{arith}
use lib.Dec.{eqb}
use lib.IntN.{ℤ}
use lib.ListN.{length}
use lib.Seq.{ext_get_or}
use borrow.Author.Tests.{eq-eqb, ne_eqb, eqb-true, not-false}
use Rattle.laws.proofs.Tests.{by-test, and_true, or_false, same_eqb}
use Rattle.halfedges.specs.Cage.{marker, most_halfedges, cell, border}
use Rattle.halfedges.specs.Refusals.{DONE, SHAPE, LIMIT, TWIN, VERTEX, EDGE, FAN, DOUBLED, given_at, first}
use Rattle.halfedges.specs.Counts.{above_limit}
use Rattle.halfedges.proofs.Checks.{is_passed, not_given, clean_done, passed_clean, AllPassed, none, also, passed_all, all_passed_done, done_passes}
use Rattle.halfedges.proofs.Questions.{limits_kept}
use Rattle.tables.specs.Tables.{Tables}
use Rattle.tables.specs.Rules.{misshapen, bad_vertex}
use Rattle.tables.specs.Fans.{not_one_fan}
use Rattle.tables.specs.Ruled.{Shaped, Paired, Placed, Numbered}
use Rattle.tables.specs.Check.{rules}
use Rattle.tables.proofs.Meaning.{shaped, paired, placed, numbered}
use Rattle.tables.proofs.EdgeCount.{twin_has_twin}
use Rattle.points.specs.Operations.{vertices, unshaped, cage_checks}
use Rattle.triangles.specs.Plain.{Undoubled, twins, twin_of, twin_table, edge_table}
use Rattle.triangles.proofs.Opposite.{Opposite, opposite, are_twins, no_twin_lem, twins_long, twin_at, one_runs, twin_is}
use Rattle.triangles.proofs.RuleSix.{edges_numbered}
use Rattle.building.specs.Building.{build_checks}
use Rattle.building.specs.Own.{slit, Slitless, share, OwnTables}
use Rattle.building.proofs.Passed.{done_undoubled}

-- ---- TWIN

module _ (c : Tables) (v : ℕ) (s : Shaped c) (small : length c.twin ≤ marker) (p : Paired c.twin) (q : Placed c.twin c.vert v) where
  -- by rules 3 and 4 a twin runs the opposite way
  twin_opposite : (h : ℕ) → h < length c.twin → cell c.twin h ≢ marker → Opposite c.vert h (cell c.twin h)
  twin_opposite h l n =
      record {
        other = p.other h l n;
        from = q.twin_ends h l n;
        to = sym (q.twin_ends (cell c.twin h) (p.below h l n) (twin_has_twin c.twin small p h l n)) ∙ ap (cell c.vert) (p.back h l n);
      }

  module _ (u : Undoubled c.vert) (o : Slitless c) where
    in_vert : {h : ℕ} → h < length c.twin → h < length c.vert
    in_vert l = rw s.vert_long l

    in_twin : {h : ℕ} → h < length c.vert → h < length c.twin
    in_twin l = rw s.vert_long at l

    -- a halfedge without twin has none by its vertices: with a border it would make a slit, and a twin's twin would have its pair
    no_opposite : (h g : ℕ) → h < length c.twin → g < length c.twin → cell c.twin h ≡ marker → Opposite c.vert h g → ⊥
    no_opposite h g lh lg m r = by (ℕ_discrete (cell c.twin g) marker)
      where
        by : Dec (cell c.twin g ≡ marker) → ⊥
        by (yes k) = true≢false (rw (eq-eqb (cell c.twin g) marker k, eq-eqb (cell c.twin h) marker m, are_twins c.vert h g r) at (o.none g h lg lh))
        by (no n) =
            let t = twin_opposite g lg n in
            let e = one_runs c.vert u (cell c.twin g) h (in_vert (p.below g lg n)) (in_vert lh) (t.from ∙ r.to) (t.to ∙ r.from) in
            omega (arith, sym m ∙ ap (cell c.twin) (sym e) ∙ p.back g lg n)

    twin_own : (h : ℕ) → h < length c.twin → twin_of c.vert h ≡ cell c.twin h
    twin_own h l = by (ℕ_discrete (cell c.twin h) marker)
      where
        by : Dec (cell c.twin h ≡ marker) → twin_of c.vert h ≡ cell c.twin h
        by (yes m) =
            no_twin_lem c.vert h (λ g lg. by-test (twins c.vert h g) (λ t. absurd (no_opposite h g l (in_twin lg) m (opposite c.vert h g t))) (λ f. f))
            ∙ sym m
        by (no n) = twin_is c.vert u h (cell c.twin h) (in_vert (p.below h l n)) (twin_opposite h l n)

    twins_own : twin_table c.vert ≡ c.twin
    twins_own =
        let long = twins_long c.vert in
        ext_get_or 0 _ _ (long ∙ s.vert_long) (λ h l. let k = rw long at l in twin_at c.vert h k ∙ twin_own h (in_twin k))

-- ---- EDGE: by rule 6 those with the same number are the same or twins, whatever the number

shared_also : (twin a b : List ℕ) → length twin ≤ marker → Numbered twin a → Numbered twin b → (g h : ℕ) → g < length twin → h < length twin → cell a g ≡ cell a h → cell b g ≡ cell b h
shared_also twin a b small na nb g h lg lh e = by (na.own g h lg lh e) (ℕ_discrete (cell twin h) marker)
  where
    by : (g ≡ h) ⊎ (g ≡ cell twin h) → Dec (cell twin h ≡ marker) → cell b g ≡ cell b h
    by (inl x) d = ap (cell b) x
    by (inr x) (yes m) = absurd (omega arith)
    by (inr x) (no n) = ap (cell b) x ∙ nb.twin_same h lh n

share-alike : (twin a b : List ℕ) → length twin ≤ marker → Numbered twin a → Numbered twin b → (g h : ℕ) → g < length twin → h < length twin → share a g h ≡ share b g h
share-alike twin a b small na nb g h lg lh = same_eqb _ _ _ _ (shared_also twin a b small na nb g h lg lh) (shared_also twin b a small nb na g h lg lh)

-- ---- the checks

module _ (c : Tables) (points : List ℤ) where
  shape_kept : Shaped c → length points % 3 ≡ 0 → unshaped c.vert points ≡ false
  unfolding unshaped
  shape_kept s w = rw (s.vert_long, ne_eqb (length c.twin) 0 (λ e. omega (arith, s.some)), eq-eqb _ _ s.whole, eq-eqb _ _ w)

  pub own_tables : first (cage_checks c points 0) ≡ DONE → Undoubled c.vert → Slitless c → OwnTables c points
  unfolding cage_checks build_checks rules
  own_tables e u o = by (passed_all _ (ap (λ w. w.number) e))
    where
      by : AllPassed (cage_checks c points 0) → OwnTables c points
      by (also a (also b (also t (also x (also y (also n (also f (also z none)))))))) =
          let shape = or_false (misshapen c) (not (eqb (length points % 3) 0)) (not_given _ SHAPE (omega arith) a) in
          let s = shaped c shape.0 in
          let limit = not_given (above_limit (length c.twin) (vertices points) 0) LIMIT (omega arith) b in
          let small : length c.twin ≤ marker = omega (arith, (limits_kept (length c.twin) (vertices points) 0 limit).0) in
          let p = paired c.twin (passed_clean _ _ TWIN (λ k. omega arith) t) in
          let q = placed c.twin c.vert (vertices points) (passed_clean _ _ VERTEX (λ k. omega arith) x) in
          let m = numbered c.twin c.edge s.edge_long (passed_clean _ _ EDGE (λ k. omega arith) n) in
          let own = twins_own c (vertices points) s small p q u o in
          let vertex : (given_at (length c.vert) (bad_vertex (twin_table c.vert) c.vert (vertices points)) VERTEX).number ≡ 0 = rw (own, s.vert_long) x in
          let fan : (given_at (vertices points) (not_one_fan (twin_table c.vert) c.vert) FAN).number ≡ 0 = rw own f in
          record {
            accepted =
                all_passed_done
                (also (is_passed _ SHAPE (shape_kept s (eqb-true _ _ (not-false _ shape.1))))
                (also (is_passed _ LIMIT (rw s.vert_long limit))
                (also (ap (λ w. w.number) (clean_done _ _ DOUBLED u.each))
                (also vertex (also y (also fan (also z none)))))));
            twin = own;
            edge = rw own (share-alike c.twin (edge_table c.twin) c.edge small (edges_numbered c.twin p small) m);
          }

  pub own_only : OwnTables c points → Undoubled c.vert × Slitless c
  unfolding build_checks
  own_only w = (u, record { none = λ g h lg lh. by-test (slit c g h) (λ t. absurd (closed g h lg lh t)) (λ f. f) })
    where
      u : Undoubled c.vert
      u = done_undoubled c.vert points w.accepted

      long : length c.twin ≡ length c.vert
      long = ap length (sym w.twin) ∙ twins_long c.vert

      few : length c.vert ≤ most_halfedges
      few = (limits_kept _ (vertices points) 0 (done_passes _ LIMIT _ refl (done_passes _ SHAPE _ refl w.accepted).1).0).0

      closed : (g h : ℕ) → g < length c.twin → h < length c.twin → slit c g h ≡ true → ⊥
      closed g h lg lh t =
          let b = and_true (border c.twin g && border c.twin h) _ t in
          let m : cell c.twin h ≡ marker = eqb-true _ _ (and_true (border c.twin g) _ b.0).1 in
          let n : cell c.twin h ≡ twin_of c.vert h = ap (λ x. cell x h) (sym w.twin) ∙ twin_at c.vert h (rw long at lh) in
          omega (arith, few, long, twin_is c.vert u h g (rw long at lg) (opposite c.vert h g b.1))
