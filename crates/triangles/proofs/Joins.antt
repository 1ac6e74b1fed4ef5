-- Vertices joined one after the other, and the corners of each down their chain. Assumes nothing.
--     joined-start, joined_on              down a vertex's chain
--     Built, built_on                      one vertex after the other
--     built-place, built-twins             and when all are joined
use Prim.Native.Nat.{ℕ, ◌+◌, ◌-◌, ◌≤◌, ◌<◌}
use mathlib.Core.Path.{◌≡◌, refl, sym, ap, ◌∙◌}
use mathlib.Core.Logic.{◌≢◌, ◌⊎◌, inl, inr}
use mathlib.Core.Bool.{true}
use mathlib.Core.List.{List}
use native.Mathlib.Decide.{ℕ_discrete, dec_lt}
use native.Mathlib.Omega.{arith}
use lib.ListN.{length, set, drop, get_or-append}
use lib.Seq.{ext_get_or, get_or-set_same, get_or-set_other, get_or-append-add, get_or-drop}
use Rattle.laws.specs.Below.{lowest}
use Rattle.laws.specs.Parts.{in_front}
use Rattle.laws.proofs.Parts.{length-in_front}
use Rattle.alike.specs.Internal.Alike.{bound, first_like, Chain, Marked}
use Rattle.alike.proofs.Chains.{At, past_head, item_below, none_between}
use Rattle.halfedges.specs.Cage.{NEXT, PREV, cell}
use Rattle.halfedges.proofs.Triangle.{next_prev, prev_next, prev_below, next_below}
use Rattle.triangles.specs.Plain.{doubled, Undoubled, twin_of, twin_table}
use Rattle.triangles.specs.Internal.Joining.{Ended, crossing, Lower, Joined}
use Rattle.triangles.proofs.Opposite.{twins_long, twin_at}
use Rattle.triangles.proofs.Doubles.{first-doubled, lowest-place}
use Rattle.triangles.proofs.Crossing.{crossing_twin, marked_back}

-- different halfedges come after different ones
prev_apart : (j k : ℕ) → PREV j ≡ PREV k → j ≡ k
prev_apart j k e = sym (next_prev j) ∙ ap NEXT e ∙ next_prev k

-- the halfedges that leave the vertices below g, and those that come to them
pub record Built (vert ends : List ℕ) (g place : ℕ) (twin₀ twin : List ℕ) : Type 0 where
  pub one : (place ≡ length vert) ⊎ ((place < length vert) × (doubled vert place ≡ true))
  pub least : (k : ℕ) → k < length vert → cell vert k < g → first_like vert ends k ≢ k → place ≤ first_like vert ends k
  pub twins : Undoubled vert → (k : ℕ) → k < length vert → cell vert k < g → cell twin (PREV k) ≡ twin_of vert (PREV k)
  pub kept : (j : ℕ) → length vert ≤ j → cell twin j ≡ cell twin₀ j

module _ {vert ends : List ℕ} (d : Ended vert ends) where
  -- ---- down a vertex's chain

  module _ {before : List ℕ} {g head : ℕ} (c : Chain vert ends before g head) where
    pub joined-start : (place : ℕ) (twin : List ℕ) → Joined vert ends g head place twin place twin
    joined-start place twin =
        record {
          one = inl refl;
          below = omega arith;
          least = λ k l e m. absurd (omega (arith, past_head c k l e));
          twins = λ u k l e m. absurd (omega (arith, past_head c k l e));
          kept = λ j n. refl;
        }

    pub joined_on : {marks : List ℕ} → Marked vert ends g marks → {end : ℕ} → At vert g end → (n : end ≢ 0) → {place now' now : ℕ} {twin twin' : List ℕ} → length vert ≤ length twin' → Lower (cell marks (cell ends (end - 1))) (end - 1) now' now → Joined vert ends g end place twin now' twin' → Joined vert ends g (cell before (end - 1)) place twin now (set twin' (PREV (end - 1)) (crossing vert (PREV (end - 1)) (cell marks (cell vert (PREV (end - 1))))))
    joined_on {marks} m {end} a n {place} {now'} {now} {twin} {twin'} room w j =
        record {
          one = one w.one;
          below = omega (arith, w.below, j.below);
          least = λ k l e b f. least k l e b f (ℕ_discrete k (end - 1));
          twins = λ u k l e b. twins u k l e b (ℕ_discrete k (end - 1));
          kept = λ i f. get_or-set_other twin' (PREV (end - 1)) i _ 0 (f (end - 1) here (a.here n)) ∙ j.kept i f;
        }
      where
        here : end - 1 < length vert
        here = item_below c a n

        -- what is marked for the item is its first
        first : cell marks (cell ends (end - 1)) ≡ first_like vert ends (end - 1)
        first = m.each (end - 1) here (a.here n)

        one : (now ≡ now') ⊎ ((now ≡ cell marks (cell ends (end - 1))) × (cell marks (cell ends (end - 1)) ≢ end - 1)) → (now ≡ place) ⊎ ((now < length vert) × (doubled vert now ≡ true))
        one (inl q) = rw q j.one
        one (inr q) = rw (q.0, first) (inr (first-doubled d (end - 1) here (λ z. q.1 (first ∙ z))))

        -- an item from the next one on was met before, or is this one
        met : (k : ℕ) → cell vert k ≡ g → cell before (end - 1) ≤ k → k ≢ end - 1 → end ≤ k
        met k e b q = by (dec_lt k end)
          where
            by : Dec (k < end) → end ≤ k
            by (yes l) = absurd (q (none_between c a n k b l e))
            by (no l) = omega (arith, l)

        least : (k : ℕ) → k < length vert → cell vert k ≡ g → cell before (end - 1) ≤ k → first_like vert ends k ≢ k → Dec (k ≡ end - 1) → now ≤ first_like vert ends k
        least k l e b f (yes q) = rw (q, ← first) (w.below_first (λ z. f (rw q (sym first ∙ z))))
        least k l e b f (no q) = omega (arith, w.below, j.least k l e (met k e b q) f)

        twins : Undoubled vert → (k : ℕ) → k < length vert → cell vert k ≡ g → cell before (end - 1) ≤ k → Dec (k ≡ end - 1) → cell (set twin' (PREV (end - 1)) (crossing vert (PREV (end - 1)) (cell marks (cell vert (PREV (end - 1)))))) (PREV k) ≡ twin_of vert (PREV k)
        twins u k l e b (yes q) =
            rw q
            (get_or-set_same twin' (PREV (end - 1)) _ 0 (omega (arith, room, inside))
            ∙ crossing_twin vert (PREV (end - 1)) _ u inside (marked_back d m (PREV (end - 1)) (ap (cell vert) (next_prev (end - 1)) ∙ a.here n)))
          where
            inside : PREV (end - 1) < length vert
            inside = prev_below d.whole.whole here
        twins u k l e b (no q) =
            get_or-set_other twin' (PREV (end - 1)) (PREV k) _ 0 (λ z. q (prev_apart k (end - 1) z)) ∙ j.twins u k l e (met k e b q)

  -- ---- one vertex after the other

  pub built_on : (g place : ℕ) {place' : ℕ} {twin₀ twin twin' : List ℕ} → Joined vert ends g 0 place twin place' twin' → Built vert ends g place twin₀ twin → Built vert ends (g + 1) place' twin₀ twin'
  built_on g place {place'} {twin₀} {twin} {twin'} j b =
      record {
        one = one j.one;
        least = λ k l e f. least k l f (ℕ_discrete (cell vert k) g) (omega arith);
        twins = λ u k l e. twins u k l (ℕ_discrete (cell vert k) g) (omega arith);
        kept = λ i l. j.kept i (λ k m e q. omega (arith, prev_below d.whole.whole m, q)) ∙ b.kept i l;
      }
    where
      one : (place' ≡ place) ⊎ ((place' < length vert) × (doubled vert place' ≡ true)) → (place' ≡ length vert) ⊎ ((place' < length vert) × (doubled vert place' ≡ true))
      one (inl q) = rw q b.one
      one (inr q) = inr q

      least : (k : ℕ) → k < length vert → first_like vert ends k ≢ k → Dec (cell vert k ≡ g) → cell vert k ≤ g → place' ≤ first_like vert ends k
      least k l f (yes q) m = j.least k l q (omega arith) f
      least k l f (no q) m = omega (arith, j.below, b.least k l (omega (arith, q)) f)

      twins : Undoubled vert → (k : ℕ) → k < length vert → Dec (cell vert k ≡ g) → cell vert k ≤ g → cell twin' (PREV k) ≡ twin_of vert (PREV k)
      twins u k l (yes q) m = j.twins u k l q (omega arith)
      twins u k l (no q) m =
          j.kept (PREV k) (λ i _ e z. q (ap (cell vert) (prev_apart k i z) ∙ e)) ∙ b.twins u k l (omega (arith, q))

  -- ---- all vertices

  module _ {place : ℕ} {twin₀ twin : List ℕ} (b : Built vert ends bound place twin₀ twin) where
    pub built-place : place ≡ lowest (length vert) (doubled vert)
    built-place = lowest-place d place b.one (λ k l. b.least k l (d.small.each k l))

    pub built-twins : Undoubled vert → length twin ≡ length twin₀ → length vert ≤ length twin₀ → twin ≡ in_front (twin_table vert) twin₀
    built-twins u e room = ext_get_or 0 twin (in_front (twin_table vert) twin₀) long (λ i l. at i (dec_lt i (length vert)))
      where
        long : length twin ≡ length (in_front (twin_table vert) twin₀)
        long = e ∙ sym (length-in_front (twin_table vert) twin₀ (rw (twins_long vert) room))

        inner : (i : ℕ) → i < length vert → cell twin i ≡ twin_of vert i
        inner i l =
            let m = next_below d.whole.whole l in
            rw (prev_next i) at (b.twins u (NEXT i) m (d.small.each (NEXT i) m))

        past : (i k : ℕ) → i ≡ length (twin_table vert) + k → cell twin i ≡ cell (in_front (twin_table vert) twin₀) i
        past i k q =
            b.kept i (omega (arith, q, twins_long vert))
            ∙ sym (rw q (get_or-append-add (twin_table vert) (drop (length (twin_table vert)) twin₀) k 0 ∙ get_or-drop (length (twin_table vert)) twin₀ k 0))

        at : (i : ℕ) → Dec (i < length vert) → cell twin i ≡ cell (in_front (twin_table vert) twin₀) i
        at i (yes l) =
            inner i l ∙ sym (get_or-append (twin_table vert) (drop (length (twin_table vert)) twin₀) 0 i (rw (twins_long vert) l) ∙ twin_at vert i l)
        at i (no l) = past i (i - length vert) (omega (arith, l, twins_long vert))
