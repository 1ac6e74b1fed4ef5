-- What the fifth pass leaves in the edges' cells: the point of every edge, by the level's creases, `edge_drawn`. Assumes nothing.
use Prim.Native.Nat.{ℕ, zero, suc, ◌+◌, ◌*◌, ◌≤◌, ◌<◌}
use mathlib.Core.Path.{◌≡◌, refl, sym, ap, ◌∙◌}
use mathlib.Core.Logic.{◌≢◌, ◌⊎◌, inl, inr}
use mathlib.Core.Bool.{true, false}
use mathlib.Core.List.{List, []}
use native.Mathlib.Decide.{ℕ_discrete}
use native.Mathlib.Nat.{le_refl, not-suc-le-zero}
use native.Mathlib.Omega.{arith}
use lib.Dec.{ltb}
use lib.IntN.{ℤ, +ℤ_comm}
use lib.ListN.{length}
use borrow.Author.Tests.{ltb-true}
use Rattle.laws.specs.Internal.Steps.{steps}
use Rattle.laws.proofs.Tests.{by-test}
use Rattle.halfedges.specs.declared.table.HalfedgeTable.{HalfedgeTable}
use Rattle.halfedges.specs.Cage.{marker, cell}
use Rattle.tables.specs.Tables.{Tables}
use Rattle.rounding.specs.Rounding.{round}
use Rattle.points.specs.PointRules.{E1}
use Rattle.points.specs.NextPoints.{coordinate, far, edge_point, carrier}
use Rattle.points.specs.Internal.Cells.{value}
use Rattle.points.proofs.Carriers.{carrier_carries, carrier_below, twin_twin}
use Rattle.seams.proofs.Turns.{Seams, after, in_edge, after_only, edge_other, edge_quiet, edge_own}

-- the middle is the same from either end
E1_swap : (a b : ℤ) → E1 a b ≡ E1 b a
unfolding E1
E1_swap a b = ap (λ z. round z 2) (+ℤ_comm a b)

module _ (t : HalfedgeTable) (c : Tables) (creases : List ℕ) (level : ℕ) (counts sharp : List ℕ) (points m : List ℤ) (seams : Seams t c creases level counts sharp points m) (e k : ℕ) (le : e < t.edges) (lk : k < 3) where
  abbrev now : ℕ → List ℤ
  now = after t c creases level counts sharp points m seams

  abbrev at : ℕ
  at = 6 * t.vertices + 3 * e + k

  -- the lower halfedge of the edge, and its twin
  abbrev low : ℕ
  low = carrier c.edge e

  abbrev high : ℕ
  high = cell c.twin low

  low_in : low < length c.twin
  low_in = omega (arith, seams.relied.carried.long, carrier_below c.twin c.edge t.edges seams.relied.carried e le)

  low_carries : cell c.edge low ≡ e
  low_carries = carrier_carries c.twin c.edge t.edges seams.relied.carried e le

  abbrev middle : ℕ → ℤ
  middle h = E1 (coordinate points k (cell c.vert h)) (coordinate points k (far c.vert h))

  -- the edge has no number: no halfedge changes its cells
  kept : ltb 0 (cell sharp e) ≡ false → (i : ℕ) → i ≤ length c.vert → value (now i) at ≡ value m at
  unfolding steps
  kept f zero b = refl
  kept f (suc i) b = by (ℕ_discrete (cell c.edge i) e) (kept f i (omega arith))
    where
      by : Dec (cell c.edge i ≡ e) → value (now i) at ≡ value m at → value (now (suc i)) at ≡ value m at
      by (yes q) ih = edge_quiet t c creases level counts sharp points m seams i b (now i) k lk e (rw q f) ∙ ih
      by (no q) ih = edge_other t c creases level counts sharp points m seams i b (now i) k lk e q ∙ ih

  -- it has one: each of its halfedges puts the middle there
  module _ (s : ltb 0 (cell sharp e) ≡ true) where
    -- none of them is a border
    paired : (h : ℕ) → h < length c.twin → cell c.edge h ≡ e → cell c.twin h ≢ marker
    paired h b q border =
        let none = seams.known.border_none h b border in
        let some = ltb-true 0 (cell sharp e) s in
        omega (arith, rw q at none)

    high_in : high < length c.twin
    high_in = seams.relied.carried.twin_below low low_in (paired low low_in low_carries)

    high_carries : cell c.edge high ≡ e
    high_carries = seams.relied.carried.twin_same low low_in (paired low low_in low_carries) ∙ low_carries

    -- the twin starts where the halfedge ends, and ends where it starts
    twin_same : middle high ≡ middle low
    twin_same =
        let start = seams.relied.twin_ends low low_in (paired low low_in low_carries) in
        let back = twin_twin c.twin c.edge t.edges seams.relied.carried low low_in (paired low low_in low_carries) in
        let end : far c.vert high ≡ cell c.vert low = sym (seams.relied.twin_ends high high_in (paired high high_in high_carries)) ∙ ap (cell c.vert) back in
        rw (start, end) (E1_swap (coordinate points k (far c.vert low)) (coordinate points k (cell c.vert low)))

    put : (i : ℕ) → i ≤ length c.vert → low < i → value (now i) at ≡ middle low
    unfolding steps
    put zero b before = absurd (not-suc-le-zero before)
    put (suc i) b before = by (ℕ_discrete (cell c.edge i) e) (λ l. put i (omega arith) l)
      where
        same : (i ≡ low) ⊎ (i ≡ high) → middle i ≡ middle low
        same (inl q) = ap middle q
        same (inr q) = ap middle q ∙ twin_same

        by : Dec (cell c.edge i ≡ e) → (low < i → value (now i) at ≡ middle low) → value (now (suc i)) at ≡ middle low
        by (yes q) ih =
            edge_own t c creases level counts sharp points m seams i b (now i) k lk e q (rw q s) (after_only t c creases level counts sharp points m seams i (omega arith)).long
            ∙ same (seams.relied.carried.own i low (in_edge t c creases level counts sharp points m seams b) (omega (arith, seams.relied.carried.long, low_in)) (q ∙ sym low_carries))
        by (no q) ih =
            let apart : low ≢ i = λ p. q (sym (ap (cell c.edge) p) ∙ low_carries) in
            edge_other t c creases level counts sharp points m seams i b (now i) k lk e q ∙ ih (omega (arith, apart))

  pub edge_drawn : value m at ≡ edge_point c [] points (carrier c.edge e) k → value (now (length c.vert)) at ≡ edge_point c sharp points (carrier c.edge e) k
  unfolding edge_point
  edge_drawn before =
      by-test (ltb 0 (cell sharp e))
      (λ s. put s (length c.vert) (le_refl _) (omega (arith, low_in, seams.relied.bordered.long)) ∙ rw (low_carries, s))
      (λ f. kept f (length c.vert) (le_refl _) ∙ before ∙ rw (low_carries, f))
