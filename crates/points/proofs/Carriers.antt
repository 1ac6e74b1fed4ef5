-- The lowest halfedge that carries an edge is the one that has no twin or a higher one: `carrier-first`, `first-carrier`; it
-- is in the table and carries the edge, `carrier_below`, `carrier_carries`. A twin's twin: `twin_twin`. Assumes nothing.
use Prim.Native.Nat.{ℕ, ◌≤◌, ◌<◌}
use mathlib.Core.Path.{◌≡◌, refl, sym, ◌∙◌}
use mathlib.Core.Logic.{◌≢◌, ◌⊎◌, inl, inr}
use mathlib.Core.Bool.{Bool, true, ◌||◌}
use mathlib.Core.List.{List}
use native.Mathlib.Decide.{ℕ_discrete}
use native.Mathlib.Omega.{arith}
use lib.Dec.{eqb, ltb}
use lib.ListN.{length}
use borrow.Author.Tests.{eq-eqb, ne_eqb, lt-ltb, eqb-true, ltb-true}
use Rattle.laws.proofs.Lowest.{lowest_at_most, lowest_passes}
use Rattle.halfedges.specs.Cage.{marker, cell, border}
use Rattle.points.specs.NextPoints.{carrier}
use Rattle.points.specs.Internal.Relied.{Carried}

-- h has no twin or a twin with a higher number: it is the lowest that carries its edge
abbrev pub lowest-carrier : List ℕ → ℕ → Bool
lowest-carrier twin h = border twin h || ltb h (cell twin h)

module _ (twin edge : List ℕ) (e : ℕ) (carried : Carried twin edge e) where
  -- a halfedge that carries i is no lower than i's carrier
  carrier_at_most : (i h : ℕ) → h < length edge → cell edge h ≡ i → carrier edge i ≤ h
  carrier_at_most i h l q = lowest_at_most (length edge) (λ g. eqb (cell edge g) i) h l (eq-eqb _ i q)

  pub carrier_carries : (i : ℕ) → i < e → cell edge (carrier edge i) ≡ i
  carrier_carries i l = let w = carried.some i l in eqb-true _ i (lowest_passes (length edge) (λ g. eqb (cell edge g) i) w.0 w.1 (eq-eqb _ i w.2))

  pub carrier_below : (i : ℕ) → i < e → carrier edge i < length edge
  carrier_below i l = let w = carried.some i l in omega (arith, carrier_at_most i w.0 w.1 w.2, w.1)

  -- it has no twin or a higher one: a lower one would carry the edge too
  pub carrier-first : (i : ℕ) → i < e → lowest-carrier twin (carrier edge i) ≡ true
  carrier-first i l = by (ℕ_discrete (cell twin h) marker)
    where
      h : ℕ
      h = carrier edge i

      lh : carrier edge i < length twin
      lh = omega (arith, carrier_below i l, carried.long)

      by : Dec (cell twin (carrier edge i) ≡ marker) → lowest-carrier twin (carrier edge i) ≡ true
      by (yes q) = rw (eq-eqb _ marker q)
      by (no q) =
          let t : cell twin (carrier edge i) < length edge = omega (arith, carried.twin_below (carrier edge i) lh q, carried.long) in
          let c = carrier_at_most i (cell twin (carrier edge i)) t (carried.twin_same (carrier edge i) lh q ∙ carrier_carries i l) in
          let d = carried.twin_other (carrier edge i) lh q in
          rw (ne_eqb _ marker q) (lt-ltb (carrier edge i) (cell twin (carrier edge i)) (omega (arith, c, d)))

  -- a twin's twin
  pub twin_twin : (h : ℕ) → h < length twin → cell twin h ≢ marker → cell twin (cell twin h) ≡ h
  twin_twin h l q = by (carried.own h (cell twin h) (omega (arith, carried.long)) (omega (arith, carried.twin_below h l q, carried.long)) (sym (carried.twin_same h l q)))
    where
      by : (h ≡ cell twin h) ⊎ (h ≡ cell twin (cell twin h)) → cell twin (cell twin h) ≡ h
      by (inl e) = absurd (carried.twin_other h l q (sym e))
      by (inr e) = sym e

  -- a halfedge with no twin or a higher one is its edge's carrier, where no halfedge's number is the marker
  pub first-carrier : length edge ≤ marker → (h : ℕ) → h < length edge → lowest-carrier twin h ≡ true → carrier edge (cell edge h) ≡ h
  first-carrier short h l f = by (carried.own (carrier edge (cell edge h)) h (carrier_below (cell edge h) (carried.below h l)) l (carrier_carries (cell edge h) (carried.below h l)))
    where
      low : carrier edge (cell edge h) ≤ h
      low = carrier_at_most (cell edge h) h l refl

      in_table : carrier edge (cell edge h) < length edge
      in_table = carrier_below (cell edge h) (carried.below h l)

      higher : Dec (cell twin h ≡ marker) → carrier edge (cell edge h) ≡ cell twin h → h < cell twin h
      higher (yes q) c = rw q (omega (arith, q))
      higher (no q) c = ltb-true h (cell twin h) (rw (ne_eqb _ marker q) at f)

      by : (carrier edge (cell edge h) ≡ h) ⊎ (carrier edge (cell edge h) ≡ cell twin h) → carrier edge (cell edge h) ≡ h
      by (inl q) = q
      by (inr q) = omega (arith, low, q, higher (ℕ_discrete (cell twin h) marker) q)
