-- Counted by halfedges, a vertex has as many creases as edges end there that are one: `edges_counted`. Assumes nothing.
use Prim.Native.Nat.{ℕ, ◌+◌, ◌≤◌, ◌<◌}
use mathlib.Core.Path.{◌≡◌, refl, sym, ap, ◌∙◌}
use mathlib.Core.Logic.{◌≢◌}
use mathlib.Core.Bool.{Bool, true, false, cond, ◌&&◌, ◌||◌}
use mathlib.Core.List.{List}
use native.Mathlib.Decide.{ℕ_discrete}
use native.Mathlib.Omega.{arith}
use lib.Dec.{eqb}
use lib.ListN.{length}
use borrow.Author.Tests.{eq-eqb, ne_eqb, eqb-true}
use Rattle.laws.specs.Below.{sum}
use Rattle.laws.proofs.Tests.{same_eqb}
use Rattle.laws.proofs.Lowest.{lowest_at_most, lowest_passes}
use Rattle.laws.proofs.Sums.{sum_same, sum_add, sum_swap, sum_at_lem}
use Rattle.halfedges.specs.Cage.{NEXT, marker, E}
use Rattle.tables.specs.Tables.{Tables, leaves}
use Rattle.tables.specs.Ruled.{Shaped, Ruled}
use Rattle.tables.proofs.EdgeCount.{carried}
use Rattle.points.specs.NextPoints.{far, carrier}
use Rattle.points.specs.Internal.Creased.{crease_after, creases_after}
use Rattle.points.specs.Internal.Relied.{border_ends}
use Rattle.invariance.proofs.Refinable.{H, VERT, EDGE}
use Rattle.sharpness.specs.Kept.{edges_after}
use Rattle.sharpness.proofs.Carried.{ends_counted}

-- an edge's two ends are not the same
one_end : (b : Bool) (x y u : ℕ) → x ≢ y → cond (b && eqb x u) 1 0 + cond (b && eqb y u) 1 0 ≡ cond (b && (eqb x u || eqb y u)) 1 0
one_end false x y u n = refl
one_end true x y u n = by (ℕ_discrete x u)
  where
    by : Dec (x ≡ u) → cond (eqb x u) 1 0 + cond (eqb y u) 1 0 ≡ cond (eqb x u || eqb y u) 1 0
    by (yes e) = rw (eq-eqb x u e, ne_eqb y u (λ d. n (e ∙ sym d)))
    by (no d) = rw (ne_eqb x u d) (omega arith)

module _ {c : Tables} {v : ℕ} (s : Shaped c) (r : Ruled c v) (small : H c ≤ marker) (d : ℕ) (creases : List ℕ) (u : ℕ) where
  -- how often halfedge h is counted at u
  abbrev met : ℕ → ℕ
  met h = cond (crease_after d c creases h && leaves c.vert u h) 1 0 + cond (border_ends c.twin c.vert u h) 1 0

  -- whether its edge is
  abbrev ended : ℕ → ℕ
  ended h = cond (crease_after d c creases h && (leaves c.vert u h || eqb (far c.vert h) u)) 1 0

  -- by its lowest halfedge h
  by_edge : (e : ℕ) → e < E c.twin → sum (H c) (λ h. cond (eqb e (EDGE c h)) (met h) 0) ≡ ended (carrier c.edge e)
  by_edge e l =
      let (g, lg, i) = carried c.twin small r.paired c.edge r.numbered e l in
      let in_edge : g < length c.edge = omega (arith, s.edge_long) in
      let lowest = lowest_at_most (length c.edge) (leaves c.edge e) g in_edge (eq-eqb _ e i) in
      let is : EDGE c (carrier c.edge e) ≡ e = eqb-true _ e (lowest_passes (length c.edge) (leaves c.edge e) g in_edge (eq-eqb _ e i)) in
      let below : carrier c.edge e < H c = omega arith in
      sum_same (H c) _ _ (λ h lh. ap (λ b. cond b (met h) 0) (same_eqb e (EDGE c h) (EDGE c h) (EDGE c (carrier c.edge e)) (λ j. sym j ∙ sym is) (λ j. sym is ∙ sym j)))
      ∙ ends_counted r small below d creases (leaves c.vert u) (λ h. eqb (far c.vert h) u) (λ n. ap (λ w. eqb w u) (r.placed.twin_ends _ below n))
      ∙ one_end (crease_after d c creases _) (VERT c _) (VERT c (NEXT _)) u (r.placed.ends _ below)

  pub edges_counted : creases_after d c creases u ≡ edges_after d c creases u
  unfolding creases_after edges_after
  edges_counted =
      rw s.vert_long
      (sym (sum_add (H c) (λ h. cond (crease_after d c creases h && leaves c.vert u h) 1 0) (λ h. cond (border_ends c.twin c.vert u h) 1 0))
      ∙ sum_same (H c) met (λ h. sum (E c.twin) (λ e. cond (eqb e (EDGE c h)) (met h) 0)) (λ h l. sym (sum_at_lem (E c.twin) (EDGE c h) (λ e. met h) (r.numbered.below h l)))
      ∙ sum_swap (H c) (E c.twin) (λ h e. cond (eqb e (EDGE c h)) (met h) 0)
      ∙ sum_same (E c.twin) _ _ by_edge)
