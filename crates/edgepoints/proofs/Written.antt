-- What the pass over the edges leaves in the edges' cells (`written_only`, `written_is`), and that a halfedge finds what its
-- lower twin started (`started_before`). Assumes nothing.
use Prim.Native.Nat.{ℕ, zero, suc, ◌+◌, ◌*◌, ◌≤◌, ◌<◌}
use mathlib.Core.Path.{◌≡◌, sym, ap, ◌∙◌, subst}
use mathlib.Core.Logic.{◌≢◌, ◌⊎◌, inl, inr}
use mathlib.Core.Bool.{cond, true}
use mathlib.Core.List.{List, []}
use native.Mathlib.Decide.{ℕ_discrete, dec_lt}
use native.Mathlib.Nat.{not-suc-le-zero}
use native.Mathlib.Omega.{arith}
use lib.Dec.{ltb}
use lib.IntN.{ℤ, nat_abs}
use lib.ListN.{length}
use borrow.Author.Tests.{eq-eqb, ne_eqb, lt-ltb, le-ltb, ltb-true}
use Rattle.laws.specs.Internal.Steps.{steps}
use Rattle.halfedges.specs.Cage.{NEXT, PREV, marker, cell, border}
use Rattle.halfedges.proofs.Triangle.{next_below, prev_below}
use Rattle.edgepoints.specs.declared.edges.Halfedge.{Halfedge}
use Rattle.tables.specs.Tables.{tables}
use Rattle.points.specs.PointRules.{E2}
use Rattle.points.specs.NextPoints.{coordinate, point_of, far, edge_point, carrier}
use Rattle.points.specs.Operations.{most_coordinate, InRange}
use Rattle.points.specs.Internal.Relied.{Carried}
use Rattle.points.specs.Internal.Cells.{value, put}
use Rattle.points.specs.Internal.Parts.{started, finished}
use Rattle.edgepoints.specs.Internal.Edges.{halfedge_of, Edged, Started, put_edge}
use Rattle.points.proofs.Numerators.{started_at_most}
use Rattle.points.proofs.Range.{any_in_range}
use Rattle.points.proofs.Only.{Only, only_steps, put_only, put_hit}
use Rattle.points.proofs.Holding.{Holds}
use Rattle.points.proofs.Ends.{far_below}
use Rattle.points.proofs.Carriers.{lowest-carrier, carrier_carries, carrier-first, carrier_below, first-carrier, twin_twin}
use Rattle.edgepoints.proofs.Writes.{own, own_border, own_start, own_finish, step-cell, corner_is, put_step_only}

module _ (twin vert edge : List ℕ) (n : ℕ) (points l : List ℤ) (edged : Edged twin vert edge n l) (holds : Holds n points l) (e : ℕ) (carried : Carried twin edge e) (room : 6 * n + 3 * e ≤ length l) where
  -- a halfedge of the level, in each table
  in_edge : {h : ℕ} → h < length vert → h < length edge
  in_edge b = omega (arith, edged.edge_long)

  in_twin : {h : ℕ} → h < length vert → h < length twin
  in_twin b = omega (arith, edged.twin_long)

  -- the table after i halfedges
  abbrev after : ℕ → List ℤ
  after i = steps i (put_edge twin vert edge n l) l

  -- the points that halfedge h reads
  from_is : (h k : ℕ) → h < length vert → k < 3 → value (point_of l (cell vert h)) k ≡ coordinate points k (cell vert h)
  from_is = corner_is edged.cornered holds

  end_is : (h k : ℕ) → h < length vert → k < 3 → value (point_of l (far vert h)) k ≡ coordinate points k (far vert h)
  end_is h k b = from_is (NEXT h) k (next_below edged.cornered.whole b)

  opposite_is : (h k : ℕ) → h < length vert → k < 3 → value (point_of l (cell vert (PREV h))) k ≡ coordinate points k (cell vert (PREV h))
  opposite_is h k b = from_is (PREV h) k (prev_below edged.cornered.whole b)

  pub written_only : (i : ℕ) → i ≤ length vert → Only (3 * n) (6 * n + 3 * e) l (after i)
  written_only = only_steps (3 * n) (6 * n + 3 * e) (length vert) (put_edge twin vert edge n l) l (λ h b m _. let c = carried.below h (in_edge b) in put_step_only twin vert edge n l (6 * n + 3 * e) edged.cornered h b (omega arith) m)

  -- what halfedge h leaves where it is the lower one of its edge
  abbrev begins : ℕ → ℕ → ℤ
  begins h k = started (coordinate points k (cell vert h)) (coordinate points k (far vert h)) (coordinate points k (cell vert (PREV h)))

  -- E.2 as the two halfedges make it
  inner_is : (h k : ℕ) → cell twin h ≢ marker → finished (begins h k) (coordinate points k (cell vert (PREV (cell twin h)))) ≡ edge_point (tables twin vert edge) [] points h k
  unfolding edge_point E2
  inner_is h k t = rw (ne_eqb _ marker t)

  -- h starts edge c, or finishes it
  module _ (c k : ℕ) (lk : k < 3) (h : ℕ) (b : h < length vert) (m : List ℤ) (long : length m ≡ length l) where
    abbrev x : Halfedge
    x = halfedge_of twin vert edge l h

    abbrev at : ℕ
    at = 6 * n + 3 * c + k

    now_is : value (put_edge twin vert edge n l h m) at ≡ value (put (6 * n + 3 * cell edge h) (own n x m) m) at
    unfolding put_edge
    now_is = step-cell n x m c k (edged.cornered.below h b) (far_below vert n edged.cornered h b) lk

    -- no other edge's cells are touched
    other_edge : cell edge h ≢ c → value (put_edge twin vert edge n l h m) at ≡ value m at
    other_edge d = now_is ∙ (put_only (6 * n + 3 * cell edge h) (own n x m) m).other at (λ x y. d (omega arith))

    hit : cell edge h ≡ c → value (put_edge twin vert edge n l h m) at ≡ own n x m k
    hit e =
        now_is
        ∙ subst (λ c. value (put (6 * n + 3 * cell edge h) (own n x m) m) (6 * n + 3 * c + k) ≡ own n x m k) e
        (put_hit (6 * n + 3 * cell edge h) (own n x m) m (rw long (edged.room h b)) k lk)

    border_hit : cell edge h ≡ c → cell twin h ≡ marker → value (put_edge twin vert edge n l h m) at ≡ edge_point (tables twin vert edge) [] points h k
    unfolding edge_point
    border_hit e t = hit e ∙ own_border n x m k t ∙ rw (from_is h k b lk, end_is h k b lk, eq-eqb _ marker t)

    start_hit : cell edge h ≡ c → h < cell twin h → cell twin h ≢ marker → value (put_edge twin vert edge n l h m) at ≡ begins h k
    start_hit e t u = hit e ∙ own_start n x m k (omega arith) u ∙ rw (from_is h k b lk, end_is h k b lk, opposite_is h k b lk)

    finish_hit : cell edge h ≡ c → cell twin h < h → value (put_edge twin vert edge n l h m) at ≡ finished (value m at) (coordinate points k (cell vert (PREV h)))
    finish_hit e t = hit e ∙ own_finish n x m k (omega (arith, edged.short)) t ∙ rw (e, opposite_is h k b lk)

  module _ (c k : ℕ) (lc : c < e) (lk : k < 3) where
    -- the lower halfedge of edge c, and its twin
    abbrev low : ℕ
    low = carrier edge c

    abbrev high : ℕ
    high = cell twin (carrier edge c)

    low_below : carrier edge c < length vert
    low_below = omega (arith, edged.edge_long, carrier_below twin edge e carried c lc)

    low_carries : cell edge (carrier edge c) ≡ c
    low_carries = carrier_carries twin edge e carried c lc

    -- edge c's cells once i halfedges have had their turn, the lower one among them
    abbrev grown : ℕ → ℤ
    grown i = cond (border twin low) (edge_point (tables twin vert edge) [] points low k) (cond (ltb high i) (edge_point (tables twin vert edge) [] points low k) (begins low k))

    pub written_is : (i : ℕ) → i ≤ length vert → carrier edge c < i → value (after i) (6 * n + 3 * c + k) ≡ grown i
    unfolding steps
    written_is zero b before = absurd (not-suc-le-zero before)
    written_is (suc i) b before = by (ℕ_discrete low i) (ℕ_discrete (cell edge i) c) (ℕ_discrete high marker) (λ d. written_is i (omega arith) (omega (arith, d)))
      where
        long : length (after i) ≡ length l
        long = (written_only i (omega arith)).long

        first : low ≡ i → Dec (high ≡ marker) → value (after (suc i)) (6 * n + 3 * c + k) ≡ grown (suc i)
        first q (yes t) =
            rw (eq-eqb high marker t) (subst (λ j. value (after (suc i)) (6 * n + 3 * c + k) ≡ edge_point (tables twin vert edge) [] points j k) (sym q) (border_hit c k lk i b (after i) long (sym (ap (cell edge) q) ∙ low_carries) (sym (ap (cell twin) q) ∙ t)))
        first q (no t) =
            let up : low < high = ltb-true low high (rw (ne_eqb high marker t) at (carrier-first twin edge e carried c lc)) in
            rw (ne_eqb high marker t, le-ltb high (suc i) (omega (arith, q, up)))
            (subst (λ j. value (after (suc i)) (6 * n + 3 * c + k) ≡ begins j k) (sym q)
            (start_hit c k lk i b (after i) long (sym (ap (cell edge) q) ∙ low_carries) (rw q at up) (rw q at t)))

        -- the twin's turn
        second : i ≡ high → value (after i) (6 * n + 3 * c + k) ≡ grown i → (high ≡ marker → ⊥) → value (after (suc i)) (6 * n + 3 * c + k) ≡ grown (suc i)
        second q ih t =
            let up : low < high = ltb-true low high (rw (ne_eqb high marker t) at (carrier-first twin edge e carried c lc)) in
            let back : cell twin i ≡ low = ap (cell twin) q ∙ twin_twin twin edge e carried low (in_twin low_below) t in
            let carries : cell edge i ≡ c = ap (cell edge) q ∙ carried.twin_same low (in_twin low_below) t ∙ low_carries in
            let now = rw (ne_eqb high marker t, le-ltb high i (omega (arith, q))) at ih in
            rw (ne_eqb high marker t, lt-ltb high (suc i) (omega (arith, q)))
            (finish_hit c k lk i b (after i) long carries (rw back (omega (arith, up, q)))
            ∙ ap (λ z. finished z (coordinate points k (cell vert (PREV i)))) now
            ∙ ap (λ j. finished (begins low k) (coordinate points k (cell vert (PREV j)))) q
            ∙ inner_is low k t)

        -- another's
        other : (cell edge i ≡ c → ⊥) → value (after i) (6 * n + 3 * c + k) ≡ grown i → Dec (high ≡ marker) → value (after (suc i)) (6 * n + 3 * c + k) ≡ grown (suc i)
        other d ih (yes t) = rw (eq-eqb high marker t) (other_edge c k lk i b (after i) long d ∙ (rw (eq-eqb high marker t) at ih))
        other d ih (no t) =
            let apart : high ≢ i = λ q. d (sym (ap (cell edge) q) ∙ carried.twin_same low (in_twin low_below) t ∙ low_carries) in
            other_edge c k lk i b (after i) long d ∙ ih ∙ rw (later (dec_lt high i) apart)
          where
            later : Dec (high < i) → high ≢ i → ltb high i ≡ ltb high (suc i)
            later (yes l) _ = lt-ltb high i l ∙ sym (lt-ltb high (suc i) (omega arith))
            later (no l) a = le-ltb high i (omega (arith, l)) ∙ sym (le-ltb high (suc i) (omega (arith, l, a)))

        own : (low ≡ i → ⊥) → cell edge i ≡ c → i ≡ high
        own d q = by_own (carried.own i low (in_edge b) (in_edge low_below) (q ∙ sym low_carries))
          where
            by_own : (i ≡ low) ⊎ (i ≡ high) → i ≡ high
            by_own (inl x) = absurd (d (sym x))
            by_own (inr x) = x

        by : Dec (low ≡ i) → Dec (cell edge i ≡ c) → Dec (high ≡ marker) → ((low ≡ i → ⊥) → value (after i) (6 * n + 3 * c + k) ≡ grown i) → value (after (suc i)) (6 * n + 3 * c + k) ≡ grown (suc i)
        by (yes q) _ t ih = first q t
        by (no d) (yes q) (yes t) ih = absurd (omega (arith, own d q, t, b, edged.short))
        by (no d) (yes q) (no t) ih = second (own d q) (ih d) t
        by (no d) (no q) t ih = other q (ih d) t

    pub edge_written : value (after (length vert)) (6 * n + 3 * c + k) ≡ edge_point (tables twin vert edge) [] points (carrier edge c) k
    edge_written = written_is (length vert) (omega arith) low_below ∙ by (ℕ_discrete high marker)
      where
        by : Dec (high ≡ marker) → grown (length vert) ≡ edge_point (tables twin vert edge) [] points (carrier edge c) k
        by (yes t) = rw (eq-eqb high marker t)
        by (no t) = rw (ne_eqb high marker t, lt-ltb high (length vert) (omega (arith, edged.twin_long, carried.twin_below low (in_twin low_below) t)))

  module _ (range : InRange points) where
    started_small : (h k : ℕ) → nat_abs (begins h k) ≤ most_coordinate * 7
    started_small h k =
        started_at_most most_coordinate (coordinate points k (cell vert h)) (coordinate points k (far vert h)) (coordinate points k (cell vert (PREV h)))
        (any_in_range points range (3 * cell vert h + k))
        (any_in_range points range (3 * far vert h + k))
        (any_in_range points range (3 * cell vert (PREV h) + k))

    pub started_before : (h : ℕ) → h < length vert → Started twin edge n h (after h)
    started_before h b up k lk =
        let apart : cell twin h ≢ marker = λ m. omega (arith, m, up, b, edged.short) in
        let back = twin_twin twin edge e carried h (in_twin b) apart in
        let t-below : cell twin h < length vert = omega (arith, up, b) in
        let c = cell edge h in
        let lc : cell edge h < e = carried.below h (in_edge b) in
        let same : cell edge (cell twin h) ≡ cell edge h = carried.twin_same h (in_twin b) apart in
        let first : lowest-carrier twin (cell twin h) ≡ true = rw (back, lt-ltb (cell twin h) h up, ne_eqb h marker (λ m. omega (arith, m, b, edged.short))) in
        let low-is : carrier edge (cell edge h) ≡ cell twin h = sym (ap (carrier edge) same) ∙ first-carrier twin edge e carried (omega (arith, edged.edge_long, edged.short)) (cell twin h) (in_edge t-below) first in
        let high_is : cell twin (carrier edge (cell edge h)) ≡ h = ap (cell twin) low-is ∙ back in
        rw (written_is (cell edge h) k lc lk h (omega arith) (omega (arith, low-is, up)), high_is, ne_eqb h marker (λ m. omega (arith, m, b, edged.short)), le-ltb h h (omega arith))
        (started_small (carrier edge (cell edge h)) k)
