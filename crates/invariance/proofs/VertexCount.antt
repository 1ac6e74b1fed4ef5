-- Vertices and their corners, counted, in tables that pass the rules.
--     vertices-counted              the vertices in VERT are V
--     corners_at_most               a vertex has at most F corners, one in a triangle
--     as_many_borders               as many border halfedges end at a vertex as leave it
--     one_border_leaves             at most one leaves it
--     two_inside                    a vertex inside has two corners at least
-- Assumes nothing.
use Prim.Native.Nat.{ℕ, ◌+◌, ◌*◌, ◌≤◌, ◌<◌}
use mathlib.Core.Path.{◌≡◌, refl, sym, ap, ◌∙◌}
use mathlib.Core.Logic.{◌≢◌, inr}
use mathlib.Core.Bool.{Bool, true, false, cond, not, ◌&&◌, true≢false}
use mathlib.Core.List.{List}
use native.Mathlib.Decide.{ℕ_discrete, dec_lt}
use native.Mathlib.Omega.{arith}
use lib.Dec.{eqb}
use lib.ListN.{length}
use borrow.Author.Tests.{eq-eqb, ne_eqb, eqb-true, not-true}
use Rattle.laws.specs.Below.{sum, count, any}
use Rattle.laws.proofs.Tests.{true_any, false_any}
use Rattle.laws.proofs.Least.{least}
use Rattle.laws.proofs.Sums.{sum_at_most, sum_same, sum_add, sum_ones, sum_triples}
use Rattle.laws.proofs.Turnings.{sum-turned}
use Rattle.laws.proofs.Pigeonhole.{some_counted, two_counted, count_at_most_one, sum_of_counts, and_both}
use Rattle.halfedges.specs.Cage.{NEXT, PREV, F, marker, cell, border}
use Rattle.tables.specs.Tables.{Tables, leaves}
use Rattle.tables.specs.Ruled.{Shaped, Ruled}
use Rattle.halfedges.proofs.Triangle.{next_0, next_1, next_2, next_prev, next-next, next_below, prev_below, round}
use Rattle.tables.proofs.Joined.{one_border}
use Rattle.tables.proofs.EdgeCount.{twin_has_twin, partner, partner_border, partner_inner, pairing}
use Rattle.invariance.specs.Invariance.{vertices_in, corners_at, OnBorder}
use Rattle.invariance.proofs.Refinable.{H, TWIN, VERT}

-- no lower halfedge leaves h's vertex
abbrev lowest : List ℕ → ℕ → Bool
lowest vert h = not (any h (leaves vert (cell vert h)))

-- h is the lowest halfedge that leaves u
abbrev lowest_of : List ℕ → ℕ → ℕ → Bool
lowest_of vert u h = lowest vert h && eqb u (cell vert h)

one_of_three : (x y z u : ℕ) → x ≢ y → y ≢ z → z ≢ x → cond (eqb x u) 1 0 + cond (eqb y u) 1 0 + cond (eqb z u) 1 0 ≤ 1
one_of_three x y z u a b c = by (ℕ_discrete x u) (ℕ_discrete y u) (ℕ_discrete z u)
  where
    by : Dec (x ≡ u) → Dec (y ≡ u) → Dec (z ≡ u) → cond (eqb x u) 1 0 + cond (eqb y u) 1 0 + cond (eqb z u) 1 0 ≤ 1
    by (yes e) d f = rw (eq-eqb x u e, ne_eqb y u (λ i. a (e ∙ sym i)), ne_eqb z u (λ i. c (i ∙ sym e))) (omega arith)
    by (no n) (yes e) f = rw (ne_eqb x u n, eq-eqb y u e, ne_eqb z u (λ i. b (e ∙ sym i))) (omega arith)
    by (no n) (no m) (yes e) = rw (ne_eqb x u n, ne_eqb y u m, eq-eqb z u e) (omega arith)
    by (no n) (no m) (no o) = rw (ne_eqb x u n, ne_eqb y u m, ne_eqb z u o) (omega arith)

module _ {c : Tables} {v : ℕ} (s : Shaped c) (r : Ruled c v) where
  one_lowest : (u : ℕ) → u < v → count (length c.vert) (lowest_of c.vert u) ≡ 1
  one_lowest u l = omega (arith, at_most, at_least (r.used.corner u l))
    where
      not_lower : (g h : ℕ) → lowest_of c.vert u g ≡ true → lowest_of c.vert u h ≡ true → g < h → ⊥
      not_lower g h a b l =
          let x = eqb-true u (VERT c g) (and_both (lowest c.vert g) (eqb u (VERT c g)) a).1 in
          let y = and_both (lowest c.vert h) (eqb u (VERT c h)) b in
          let z = eqb-true u (VERT c h) y.1 in
          true≢false (sym (true_any (leaves c.vert (VERT c h)) h g l (eq-eqb _ _ (sym x ∙ z))) ∙ not-true _ y.0)

      same : (g h : ℕ) → lowest_of c.vert u g ≡ true → lowest_of c.vert u h ≡ true → Dec (g < h) → Dec (h < g) → g ≡ h
      same g h a b (yes x) y = absurd (not_lower g h a b x)
      same g h a b (no x) (yes y) = absurd (not_lower h g b a y)
      same g h a b (no x) (no y) = omega (arith, x, y)

      at_most : count (length c.vert) (lowest_of c.vert u) ≤ 1
      at_most = count_at_most_one (length c.vert) (lowest_of c.vert u) (λ g h lg lh a b. same g h a b (dec_lt g h) (dec_lt h g))

      at_least : (h : ℕ) × (h < length c.vert) × (VERT c h ≡ u) → 0 < count (length c.vert) (lowest_of c.vert u)
      at_least g =
          let m = least (leaves c.vert u) g.0 (eq-eqb _ _ g.2) in
          some_counted (length c.vert) (lowest_of c.vert u) m.0 (omega (arith, m.1, g.1))
          (rw (eqb-true (VERT c m.0) u m.2.passes, false_any (leaves c.vert u) m.0 m.2.none_below) (eq-eqb u u refl))

  pub vertices-counted : vertices_in c.vert ≡ v
  unfolding vertices_in
  vertices-counted =
      sym (sum_of_counts (length c.vert) v (lowest c.vert) (cell c.vert) (λ h l e. r.placed.below h (rw s.vert_long at l)))
      ∙ sum_same v _ (λ u. 1) one_lowest ∙ sum_ones v

  pub corners_at_most : (u : ℕ) → corners_at c u ≤ F (H c)
  unfolding corners_at
  corners_at_most u =
      rw (ap (λ n. count n (leaves c.vert u)) whole)
      (omega (
        arith,
        sum_triples (F (H c)) (λ h. cond (leaves c.vert u h) 1 0),
        sum_at_most (F (H c)) 1 _ (λ i l. one_of_three _ _ _ u (ends (omega arith) (next_0 i)) (ends (omega arith) (next_1 i)) (ends (omega arith) (next_2 i))),
      ))
    where
      whole : H c ≡ 3 * F (H c)
      whole = omega (arith, s.whole)

      ends : {h k : ℕ} → h < 3 * F (H c) → NEXT h ≡ k → VERT c h ≢ VERT c k
      ends {h} l e = rw (← e) (r.placed.ends h (rw whole l))

  -- ---- the border at u

  module _ (small : H c ≤ marker) (u : ℕ) where
    pub as_many_borders :
        count (length c.vert) (λ h. border c.twin h && eqb (VERT c (NEXT h)) u) ≡ count (length c.vert) (λ h. border c.twin h && leaves c.vert u h)
    as_many_borders =
        rw s.vert_long
        (omega (
          arith,
          parts ends,
          parts (leaves c.vert u),
          sum-turned (H c) NEXT _ (λ h. cond (leaves c.vert u h) 1 0) (round s.whole),
          sum-turned (H c) (partner c.twin) _ (inner (leaves c.vert u)) (pairing c.twin small r.paired),
          sum_same (H c) (λ h. inner (leaves c.vert u) (partner c.twin h)) (inner ends) (λ h l. across h l (ℕ_discrete (TWIN c h) marker)),
        ))
      where
        ends : ℕ → Bool
        ends h = eqb (VERT c (NEXT h)) u

        -- one where h has a twin and passes
        inner : (ℕ → Bool) → ℕ → ℕ
        inner p h = cond (border c.twin h) 0 (cond (p h) 1 0)

        split : (a b : Bool) → cond (a && b) 1 0 + cond a 0 (cond b 1 0) ≡ cond b 1 0
        split true b = omega arith
        split false b = omega arith

        parts : (p : ℕ → Bool) → count (H c) (λ h. border c.twin h && p h) + sum (H c) (inner p) ≡ count (H c) p
        parts p = sym (sum_add (H c) _ (inner p)) ∙ sum_same (H c) _ _ (λ h l. split (border c.twin h) (p h))

        across : (h : ℕ) → h < H c → Dec (TWIN c h ≡ marker) → inner (leaves c.vert u) (partner c.twin h) ≡ inner ends h
        across h l (yes m) = rw (partner_border c.twin h m, eq-eqb (TWIN c h) marker m)
        across h l (no n) =
            rw (partner_inner c.twin h n, ne_eqb (TWIN c h) marker n, ne_eqb (TWIN c (TWIN c h)) marker (twin_has_twin c.twin small r.paired h l n), r.placed.twin_ends h l n)

    pub one_border_leaves : count (length c.vert) (λ h. border c.twin h && leaves c.vert u h) ≤ 1
    one_border_leaves =
        count_at_most_one (length c.vert) (λ h. border c.twin h && leaves c.vert u h)
        (λ g h lg lh a b.
        let x = and_both (border c.twin g) (leaves c.vert u g) a in
        let y = and_both (border c.twin h) (leaves c.vert u h) b in
        one_border c.twin s.whole r.paired small g h (rw s.vert_long at lg) (rw s.vert_long at lh) (eqb-true _ _ x.0) (eqb-true _ _ y.0)
        (r.fanned.one g h lg lh (eqb-true _ _ x.1 ∙ sym (eqb-true _ _ y.1))))

    -- h leaves u. PREV(h) ends there and so has a twin, which leaves u too and is not h: then both would run between the same two
    -- vertices, and the third corner would be one of them
    pub two_inside : u < v → ¬ OnBorder c u → 2 ≤ corners_at c u
    unfolding corners_at
    two_inside l inside = by (r.used.corner u l)
      where
        by : (h : ℕ) × (h < length c.vert) × (VERT c h ≡ u) → 2 ≤ count (H c) (leaves c.vert u)
        by (h, lv, q) =
            let lh : h < H c = omega (arith, lv, s.vert_long) in
            let lp = prev_below s.whole lh in
            let ends : VERT c (NEXT (PREV h)) ≡ u = ap (VERT c) (next_prev h) ∙ q in
            let twinned : TWIN c (PREV h) ≢ marker = λ m. inside (PREV h, lp, m, inr ends) in
            two_counted (H c) (leaves c.vert u) (TWIN c (PREV h)) h (r.paired.below (PREV h) lp twinned) lh
            (λ e. third h lh (sym (ap (TWIN c) e) ∙ r.paired.back (PREV h) lp twinned))
            (eq-eqb _ _ (r.placed.twin_ends (PREV h) lp twinned ∙ ends)) (eq-eqb _ _ q)
          where
            third : (h : ℕ) → h < H c → TWIN c h ≡ PREV h → ⊥
            third h lh e =
                let twinned : TWIN c h ≢ marker = λ m. omega (arith, prev_below s.whole lh, m, e) in
                r.placed.ends (NEXT h) (next_below s.whole lh)
                (sym (r.placed.twin_ends h lh twinned) ∙ ap (VERT c) (e ∙ sym (next-next h)))
