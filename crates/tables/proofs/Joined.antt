-- Rule 7's test is its plain statement: `joined_test` and `test_joined`, where rule 3 holds and triangles are whole.
-- Links lead on one way from a halfedge and lead to it from at most one, so what is joined is met going on from one of
-- the two; and a run of links needs no halfedge twice. No link leads to a halfedge without twin, so of joined ones at
-- most one has none: `one_border`. Assumes nothing.
use Prim.Native.Nat.{ℕ, zero, suc, ◌+◌, ◌-◌, ◌%◌, ◌≤◌, ◌<◌}
use mathlib.Core.Path.{◌≡◌, refl, sym, ap, subst, ◌∙◌}
use mathlib.Core.Logic.{◌≢◌}
use mathlib.Core.Bool.{true, or-true, ◌||◌, true≢false}
use mathlib.Core.List.{List}
use native.Mathlib.Decide.{ℕ_discrete}
use native.Mathlib.Nat.{not-suc-le-zero}
use native.Mathlib.Omega.{arith}
use lib.Dec.{eqb}
use lib.ListN.{length}
use borrow.Author.Tests.{eq-eqb, ne_eqb, eqb-true, eqb-false}
use Rattle.laws.proofs.Tests.{by-test}
use Rattle.laws.proofs.Least.{Least, least}
use Rattle.laws.proofs.Pigeonhole.{distinct_at_most}
use Rattle.halfedges.specs.Cage.{NEXT, PREV, marker, cell}
use Rattle.tables.specs.Fans.{link, Joined, itself, linked, back, on, met, joined}
use Rattle.tables.specs.Ruled.{Paired}
use Rattle.halfedges.proofs.Triangle.{next_prev, prev_below}

-- the halfedge n links on from g
walk : List ℕ → ℕ → ℕ → ℕ
walk twin g zero = g
walk twin g (suc n) = link twin (walk twin g n)

walk_on : (twin : List ℕ) (g n k : ℕ) → walk twin (walk twin g n) k ≡ walk twin g (k + n)
unfolding walk
walk_on twin g n zero = ap (walk twin g) (let e : n ≡ 0 + n = omega arith in e)
walk_on twin g n (suc k) = ap (link twin) (walk_on twin g n k) ∙ ap (walk twin g) (let e : suc (k + n) ≡ suc k + n = omega arith in e)

walk_first : (twin : List ℕ) (g i : ℕ) → walk twin (link twin g) i ≡ walk twin g (suc i)
unfolding walk
walk_first twin g i = walk_on twin g 1 i ∙ ap (walk twin g) (let e : i + 1 ≡ suc i = omega arith in e)

-- from g there are n links, to h
record Run (twin : List ℕ) (g h n : ℕ) : Type 0 where
  ends : walk twin g n ≡ h
  goes : (i : ℕ) → i < n → link twin (walk twin g i) ≢ marker

stay : (twin : List ℕ) (g : ℕ) → Run twin g g 0
unfolding walk
stay twin g = record { ends = refl; goes = λ i l. absurd (not-suc-le-zero l) }

module _ (twin : List ℕ) where
  -- a link before a run, and a run after its first link
  longer : (g h n : ℕ) → link twin g ≢ marker → Run twin (link twin g) h n → Run twin g h (suc n)
  unfolding walk
  longer g h n e r = record { ends = sym (walk_first twin g n) ∙ r.ends; goes = goes }
    where
      goes : (i : ℕ) → i < suc n → link twin (walk twin g i) ≢ marker
      goes zero l = e
      goes (suc i) l = rw (← walk_first twin g i) (r.goes i (omega arith))

  rest : (g h n : ℕ) → Run twin g h (suc n) → Run twin (link twin g) h n
  rest g h n r = record { ends = walk_first twin g n ∙ r.ends; goes = λ i l. rw (walk_first twin g i) (r.goes (suc i) (omega arith)) }

  run_met : (n k g h : ℕ) → k ≤ n → Run twin g h k → met twin n g h ≡ true
  unfolding met walk
  run_met zero zero g h b r = eq-eqb g h r.ends
  run_met zero (suc k) g h b r = absurd (not-suc-le-zero b)
  run_met (suc n) zero g h b r = rw (eq-eqb g h r.ends)
  run_met (suc n) (suc k) g h b r =
      rw (ne_eqb (link twin g) marker (r.goes 0 (omega arith)), run_met n k (link twin g) h (omega arith) (rest g h k r)) (or-true (eqb g h))

  met_run : (n g h : ℕ) → met twin n g h ≡ true → (k : ℕ) × Run twin g h k
  unfolding met
  met_run zero g h e = (0, subst (λ x. Run twin g x 0) (eqb-true g h e) (stay twin g))
  met_run (suc n) g h e =
      by-test (eqb g h)
      (λ q. (0, subst (λ x. Run twin g x 0) (eqb-true g h q) (stay twin g)))
      (λ q. by-test (eqb (link twin g) marker)
      (λ m. absurd (true≢false (sym (rw (q, m) at e))))
      (λ m. let r = met_run n (link twin g) h (rw (q, m) at e) in (suc r.0, longer g h r.0 (eqb-false _ _ m) r.1)))

module _ (twin : List ℕ) (whole : length twin % 3 ≡ 0) (p : Paired twin) where
  link_below : (h : ℕ) → h < length twin → link twin h ≢ marker → link twin h < length twin
  link_below h l e = p.below (PREV h) (prev_below whole l) e

  link_one : (g h : ℕ) → g < length twin → h < length twin → link twin h ≢ marker → link twin g ≡ link twin h → g ≡ h
  link_one g h lg lh e q =
      sym (next_prev g)
      ∙ ap NEXT (sym (p.back (PREV g) (prev_below whole lg) (λ m. e (sym q ∙ m))) ∙ ap (cell twin) q ∙ p.back (PREV h) (prev_below whole lh) e)
      ∙ next_prev h

  walk_below : (g h n : ℕ) → g < length twin → Run twin g h n → (i : ℕ) → i ≤ n → walk twin g i < length twin
  unfolding walk
  walk_below g h n l r zero b = l
  walk_below g h n l r (suc i) b = link_below (walk twin g i) (walk_below g h n l r i (omega arith)) (r.goes i (omega arith))

  -- the shortest run has no more links than there are halfedges
  shortest : (g h n : ℕ) → g < length twin → Run twin g h n → (k : ℕ) × (k < length twin) × Run twin g h k
  shortest g h n l r = by (least (λ i. eqb (walk twin g i) h) n (eq-eqb _ _ r.ends))
    where
      by : (k : ℕ) × (k ≤ n) × Least (λ i. eqb (walk twin g i) h) k → (k : ℕ) × (k < length twin) × Run twin g h k
      by m = (k, distinct_at_most (suc k) (length twin) (walk twin g) (λ i b. walk_below g h k l run i (omega arith)) apart, run)
        where
          k : ℕ
          k = m.0

          run : Run twin g h k
          run = record { ends = eqb-true _ _ m.2.passes; goes = λ i b. r.goes i (omega (arith, m.1)) }

          -- a halfedge met twice would have h met sooner
          apart : (i j : ℕ) → i < j → j < suc k → walk twin g i ≢ walk twin g j
          apart i j b c e =
              eqb-false (walk twin g (k - j + i)) h (m.2.none_below (k - j + i) (omega arith))
              (sym (walk_on twin g i (k - j)) ∙ ap (λ x. walk twin x (k - j)) e ∙ walk_on twin g j (k - j)
              ∙ ap (walk twin g) (let z : k - j + j ≡ k = omega arith in z) ∙ run.ends)

  -- h is met from g, or g from h
  data Reached (g h : ℕ) : Type 0 where
    ahead : (n : ℕ) → Run twin g h n → Reached g h
    behind : (n : ℕ) → Run twin h g n → Reached g h

  module _ (g h : ℕ) (l : h < length twin) (e : link twin h ≢ marker) where
    reached_on : Reached g h → Reached g (link twin h)
    unfolding walk
    reached_on (ahead n r) = ahead (suc n) (record { ends = ap (link twin) r.ends; goes = goes })
      where
        goes : (i : ℕ) → i < suc n → link twin (walk twin g i) ≢ marker
        goes i b = by (ℕ_discrete i n)
          where
            by : Dec (i ≡ n) → link twin (walk twin g i) ≢ marker
            by (yes q) = rw (q, r.ends) e
            by (no q) = r.goes i (omega (arith, q))
    reached_on (behind zero r) = ahead 1 (longer twin g (link twin h) 0 (rw (← r.ends) e) (rw (← r.ends) (stay twin (link twin h))))
    reached_on (behind (suc n) r) = behind n (rest twin h g n r)

    reached_off : g < length twin → Reached g (link twin h) → Reached g h
    unfolding walk
    reached_off lg (behind n r) = behind (suc n) (longer twin h g n e r)
    reached_off lg (ahead zero r) = behind 1 (longer twin h g 0 e (subst (λ x. Run twin (link twin h) x 0) (sym r.ends) (stay twin (link twin h))))
    reached_off lg (ahead (suc n) r) =
        let b : walk twin g n ≡ h = link_one (walk twin g n) h (walk_below g (link twin h) (suc n) lg r n (omega arith)) l e r.ends in
        ahead n (record { ends = b; goes = λ i c. r.goes i (omega arith) })

  joined_reached : (g : ℕ) → g < length twin → {a b : ℕ} → Joined twin a b → (Reached g a → Reached g b) × (Reached g b → Reached g a)
  joined_reached g lg (itself h) = (λ x. x, λ x. x)
  joined_reached g lg (linked h l e) = (reached_on g h l e, reached_off g h l e lg)
  joined_reached g lg (back j) = let f = joined_reached g lg j in (f.1, f.0)
  joined_reached g lg (on j k) = let f = joined_reached g lg j in let m = joined_reached g lg k in (λ x. m.0 (f.0 x), λ x. f.1 (m.1 x))

  pub joined_test : (g h : ℕ) → g < length twin → h < length twin → Joined twin g h → joined twin g h ≡ true
  unfolding joined
  joined_test g h lg lh j = by ((joined_reached g lg j).0 (ahead 0 (stay twin g)))
    where
      by : Reached g h → (met twin (length twin) g h || met twin (length twin) h g) ≡ true
      by (ahead n r) = let s = shortest g h n lg r in rw (run_met twin (length twin) s.0 g h (omega (arith, s.1)) s.2)
      by (behind n r) =
          let s = shortest h g n lh r in
          rw (run_met twin (length twin) s.0 h g (omega (arith, s.1)) s.2) (or-true (met twin (length twin) g h))

  run_joined : (g h n : ℕ) → g < length twin → Run twin g h n → Joined twin g h
  unfolding walk
  run_joined g h zero l r = subst (Joined twin g) r.ends (itself g)
  run_joined g h (suc n) l r =
      let e = r.goes 0 (omega arith) in
      on (linked g l e) (run_joined (link twin g) h n (link_below g l e) (rest twin g h n r))

  pub test_joined : (g h : ℕ) → g < length twin → h < length twin → joined twin g h ≡ true → Joined twin g h
  unfolding joined
  test_joined g h lg lh e =
      by-test (met twin (length twin) g h)
      (λ m. let r = met_run twin (length twin) g h m in run_joined g h r.0 lg r.1)
      (λ m. let r = met_run twin (length twin) h g (rw m at e) in back (run_joined h g r.0 lh r.1))

  -- where a run ends without a twin it has not begun
  border-start : length twin ≤ marker → (g h n : ℕ) → g < length twin → cell twin h ≡ marker → Run twin g h n → g ≡ h
  unfolding walk
  border-start small g h zero l m r = r.ends
  border-start small g h (suc n) l m r =
      let x = walk twin g n in
      let lx = prev_below whole (walk_below g h (suc n) l r n (omega arith)) in
      let e : PREV x ≡ marker = sym (p.back (PREV x) lx (r.goes n (omega arith))) ∙ ap (cell twin) r.ends ∙ m in
      absurd (omega arith)

  pub one_border : length twin ≤ marker → (g h : ℕ) → g < length twin → h < length twin → cell twin g ≡ marker → cell twin h ≡ marker → Joined twin g h → g ≡ h
  one_border small g h lg lh mg mh j = by ((joined_reached g lg j).0 (ahead 0 (stay twin g)))
    where
      by : Reached g h → g ≡ h
      by (ahead n r) = border-start small g h n lg mh r
      by (behind n r) = sym (border-start small h g n lh mg r)
