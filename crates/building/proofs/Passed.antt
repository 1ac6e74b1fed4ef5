-- What is built from VERT, by the cage check. Assumes nothing.
--     twins_pass, edges_pass               where no directed pair is doubled, 3 and 6 are never given
--     checks_same                          there building refuses what the cage check does, at the same place
--     done_undoubled                       where building refuses nothing, no directed pair is doubled
--     built-accepted, build_accepted       there the cage check accepts what is built, and returns the same
use Prim.Native.Nat.{ℕ, ◌%◌, ◌≤◌}
use mathlib.Core.Path.{◌≡◌, refl, sym, ap, ◌∙◌}
use mathlib.Core.Bool.{not, ◌||◌}
use mathlib.Core.List.{List, ◌∷◌}
use native.Mathlib.Decide.{ℕ_discrete}
use native.Mathlib.Omega.{arith}
use lib.Dec.{eqb}
use lib.IntN.{ℤ}
use lib.ListN.{length, replicate}
use borrow.Author.Tests.{eq-eqb}
use Rattle.laws.proofs.Tests.{or_false_right}
use Rattle.laws.proofs.Tabulate.{length-tabulate}
use Rattle.halfedges.specs.Cage.{marker, E}
use Rattle.halfedges.specs.Refusals.{Verdict, DONE, SHAPE, LIMIT, TWIN, VERTEX, EDGE, DOUBLED, given, given_at, first, said}
use Rattle.halfedges.specs.Counts.{above_limit}
use Rattle.halfedges.proofs.Checks.{not_given, clean_done, first_passed, first-refused, done_both, done_passes, done_nowhere}
use Rattle.halfedges.proofs.Questions.{limits_kept}
use Rattle.tables.specs.Rules.{misshapen, bad_twin, bad_vertex, bad_edge}
use Rattle.tables.specs.Check.{rules, returned}
use Rattle.tables.proofs.Meaning.{clean_twins, clean_edges}
use Rattle.points.specs.Operations.{vertices, unshaped, cage_checks, check_cage}
use Rattle.triangles.specs.Plain.{doubled, Undoubled, twin_table, edge_of, edge_table}
use Rattle.triangles.proofs.Opposite.{twins_long, twins_paired}
use Rattle.triangles.proofs.RuleSix.{edges_numbered}
use Rattle.building.specs.Building.{built, build_checks, build_verdict, build_cage}

-- ---- checks one after the other

-- the same check before others that are the same where it is passed
first_same : (v : Verdict) (vs ws : List Verdict) → (v.number ≡ 0 → first vs ≡ first ws) → first (v ∷ vs) ≡ first (v ∷ ws)
first_same v vs ws f = by (ℕ_discrete v.number 0)
  where
    by : Dec (v.number ≡ 0) → first (v ∷ vs) ≡ first (v ∷ ws)
    by (yes z) = first_passed v vs z ∙ f z ∙ sym (first_passed v ws z)
    by (no z) = first-refused v vs z ∙ sym (first-refused v ws z)

-- a check that is done is passed over
passed_over : (v : Verdict) (vs : List Verdict) → v ≡ DONE → first (v ∷ vs) ≡ first vs
passed_over v vs e = first_passed v vs (ap (λ w. w.number) e)

-- 1, 2, d, 4, 5, 7 and more, and 1, 2, 3, 4, 5, 6, 7 and more, where d, 3 and 6 are done
aligned : (shape shape' limit limit' d twins vertex vertex' unused edges fan : Verdict) (vs : List Verdict) → shape ≡ shape' → limit ≡ limit' → d ≡ DONE → twins ≡ DONE → vertex ≡ vertex' → (limit'.number ≡ 0 → edges ≡ DONE) → first (shape ∷ limit ∷ d ∷ vertex ∷ unused ∷ fan ∷ vs) ≡ first (shape' ∷ limit' ∷ twins ∷ vertex' ∷ unused ∷ edges ∷ fan ∷ vs)
aligned shape shape' limit limit' d twins vertex vertex' unused edges fan vs es el ed et ev ee =
    rw (es, el, ev)
    (first_same shape' _ _
    (λ _. first_same limit' _ _
    (λ z.
    passed_over d _ ed
    ∙ first_same vertex' _ _ (λ _. first_same unused _ _ (λ _. sym (passed_over edges (fan ∷ vs) (ee z))))
    ∙ sym (passed_over twins _ et))))

module _ (vert : List ℕ) where
  -- ---- 3 and 6, which building does not ask for

  edges_long : length (edge_table (twin_table vert)) ≡ length (twin_table vert)
  edges_long = length-tabulate (length (twin_table vert)) (edge_of (twin_table vert))

  module _ (u : Undoubled vert) where
    pub twins_pass : given_at (length (twin_table vert)) (bad_twin (twin_table vert)) TWIN ≡ DONE
    twins_pass = clean_done _ _ TWIN (clean_twins (twin_table vert) (twins_paired vert u))

    pub edges_pass : length vert ≤ marker → given_at (length (twin_table vert)) (bad_edge (twin_table vert) (edge_table (twin_table vert)) (E (twin_table vert))) EDGE ≡ DONE
    edges_pass small =
        clean_done _ _ EDGE
        (clean_edges (twin_table vert) (edge_table (twin_table vert)) edges_long (edges_numbered (twin_table vert) (twins_paired vert u) (rw (twins_long vert) small)))

  -- ---- 1 and 2

  module _ (points : List ℤ) where
    shape_same : unshaped vert points ≡ (misshapen (built vert) || not (eqb (length points % 3) 0))
    unfolding unshaped misshapen
    shape_same =
        sym (rw (
          edges_long,
          eq-eqb (length vert) (length (twin_table vert)) (sym (twins_long vert)),
          eq-eqb (length (twin_table vert)) (length (twin_table vert)) refl,
          twins_long vert,
          or_false_right (eqb (length vert) 0 || not (eqb (length vert % 3) 0)),
          or_false_right (eqb (length vert) 0 || not (eqb (length vert % 3) 0)),
        ))

    module _ (u : Undoubled vert) where
      pub checks_same : first (build_checks vert points) ≡ first (cage_checks (built vert) points 0)
      unfolding build_checks cage_checks rules
      checks_same =
          aligned _ _ _ _ _ _ _ _ _ _ _ _
          (ap (λ b. given b SHAPE) shape_same)
          (ap (λ n. given (above_limit n (vertices points) 0) LIMIT) (sym (twins_long vert)))
          (clean_done (length vert) (doubled vert) DOUBLED u.each)
          (twins_pass u)
          (ap (λ n. given_at n (bad_vertex (twin_table vert) vert (vertices points)) VERTEX) (sym (twins_long vert)))
          (λ z. edges_pass u (small z))
        where
          small : (given (above_limit (length (twin_table vert)) (vertices points) 0) LIMIT).number ≡ 0 → length vert ≤ marker
          small z = omega (arith, twins_long vert, (limits_kept (length (twin_table vert)) (vertices points) 0 (not_given _ LIMIT (omega arith) z)).0)

    -- ---- what building accepts

    pub done_undoubled : first (build_checks vert points) ≡ DONE → Undoubled vert
    unfolding build_checks
    done_undoubled e =
        let shape = done_passes _ SHAPE _ refl e in
        let limit = done_passes _ LIMIT _ refl shape.1 in
        record { each = (done_nowhere (length vert) (doubled vert) DOUBLED _ (λ _. refl) limit.1).0 }

    pub built-accepted : first (build_checks vert points) ≡ DONE → first (cage_checks (built vert) points 0) ≡ DONE
    built-accepted e = sym (checks_same (done_undoubled e)) ∙ e

    pub build_accepted : (lentTwin lentEdge : List ℕ) → build_verdict vert points lentTwin lentEdge ≡ DONE → check_cage (built vert) points ≡ (build_cage vert points lentTwin lentEdge).answer
    unfolding check_cage build_cage build_verdict
    build_accepted lentTwin lentEdge e =
        ap (λ v. said v (returned (twin_table vert) (vertices points)) (replicate 5 0))
        (built-accepted (done_both (build_checks vert points) _ e).0 ∙ sym e)
