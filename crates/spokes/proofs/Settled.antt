-- What the pass over the vertices leaves: `settled_only`, `settled_is`; what a cell's turn asks, `settles_on`. A
-- vertex's known corners: `own_known`, `added_known`, and a cell's turn with them, `settle_is`. Assumes nothing.
use Prim.Native.Nat.{ℕ, zero, suc, ◌+◌, ◌*◌, ◌/◌, ◌≤◌, ◌<◌}
use mathlib.Core.Path.{◌≡◌, refl, sym, ap, ap₂, ◌∙◌}
use mathlib.Core.List.{List, [], ◌∷◌}
use native.Mathlib.Decide.{ℕ_discrete}
use native.Mathlib.Nat.{not-suc-le-zero, le_of_suc-le-suc}
use native.Mathlib.Omega.{arith}
use lib.IntN.{ℤ, pos}
use lib.ListN.{length, set, get_or-eq_default}
use lib.Seq.{get_or-set_same}
use mir.Syntax.{w32}
use mir.Facts.{to_z-of_z}
use Rattle.laws.proofs.Integers.{small_fits}
use Rattle.laws.specs.Internal.Steps.{steps}
use Rattle.halfedges.specs.Cage.{cell}
use Rattle.points.specs.declared.weights.Weight.{Weight}
use Rattle.points.specs.PointRules.{V3}
use Rattle.points.specs.Internal.Parts.{AsksInside}
use Rattle.points.specs.Internal.Relied.{known_corners}
use Rattle.points.specs.Internal.Cells.{value}
use Rattle.spokes.specs.Internal.Vertices.{settle, SettlesAt}
use Rattle.points.proofs.Only.{Only, only_none, only_on, only_wider, only_set, stored}

-- the corners of a listed vertex, and of another
pub own_known : (own : List ℕ) (u : ℕ) → u < length own → known_corners own u ≡ cell own u
own_known [] u l = absurd (not-suc-le-zero l)
own_known (x ∷ own) zero l = refl
own_known (x ∷ own) (suc u) l = own_known own u (le_of_suc-le-suc l)

pub added_known : (own : List ℕ) (u : ℕ) → length own ≤ u → known_corners own u ≡ 6
added_known own u l = get_or-eq_default own 6 l

-- what V.3 asks, of numbers as they are kept
module _ {corners : ℕ} {x t : ℤ} (asks : AsksInside corners x t) where
  pub place_kept : stored x ≡ x
  place_kept = to_z-of_z (small_fits w32 x (omega (arith, asks.place)))

  pub sum_kept : stored t ≡ t
  sum_kept = to_z-of_z (small_fits w32 t (omega (arith, asks.small, asks.few)))

  pub asks_kept : AsksInside corners (stored x) (stored t)
  asks_kept = simp (place_kept, sum_kept) asks

-- a cell's turn, with corners that the vertex is known to have
pub settle_is : (w : Weight) (own : List ℕ) (n i : ℕ) (y : List ℤ) {corners : ℕ} {z : List ℤ} → known_corners own (i / 3) ≡ corners → z ≡ set y (3 * n + i) (V3 w corners (value y i) (value y (3 * n + i))) → z ≡ settle w own n i y
unfolding settle
settle_is w own n i y known d = d ∙ ap (λ k. set y (3 * n + i) (V3 w k (value y i) (value y (3 * n + i)))) (sym known)

module _ (w : Weight) (own : List ℕ) (n : ℕ) (l : List ℤ) (room : 6 * n ≤ length l) where
  -- what cell i is made
  abbrev made : ℕ → List ℤ → ℤ
  made i m = V3 w (known_corners own (i / 3)) (value m i) (value m (3 * n + i))

  pub settled_only : (i : ℕ) → i ≤ 3 * n → Only (3 * n) (3 * n + i) l (steps i (settle w own n) l)
  unfolding steps settle
  settled_only zero b = only_none _ _ l
  settled_only (suc i) b =
      let m = steps i (settle w own n) l in
      only_on (only_wider (3 * n) (3 * n + suc i) (omega arith) (omega arith) (settled_only i (omega arith)))
      (only_wider (3 * n) (3 * n + suc i) (omega arith) (omega arith) (only_set m (3 * n + i) (made i m)))

  -- no cell is touched before its turn
  untouched : (i : ℕ) → i < 3 * n → (value (steps i (settle w own n) l) i ≡ value l i) × (value (steps i (settle w own n) l) (3 * n + i) ≡ value l (3 * n + i))
  untouched i b =
      let only = settled_only i (omega arith) in
      (only.other i (λ p q. omega arith), only.other (3 * n + i) (λ p q. omega arith))

  -- what a cell's turn asks, with corners that the vertex is known to have
  pub settles_on : (i : ℕ) → i < 3 * n → SettlesAt own n i l → {corners : ℕ} {y : List ℤ} → known_corners own (i / 3) ≡ corners → y ≡ steps i (settle w own n) l → AsksInside corners (value y i) (value y (3 * n + i))
  settles_on i b s known e = let u = untouched i b in rw (← known, e, u.0, u.1) s

  pub settled_is : (j i : ℕ) → i ≤ 3 * n → j < i → value (steps i (settle w own n) l) (3 * n + j) ≡ made j l
  unfolding steps settle
  settled_is j zero b lj = absurd (not-suc-le-zero lj)
  settled_is j (suc i) b lj = by (ℕ_discrete j i) (λ d. settled_is j i (omega arith) (omega (arith, d)))
    where
      m : List ℤ
      m = steps i (settle w own n) l

      by : Dec (j ≡ i) → ((j ≡ i → ⊥) → value m (3 * n + j) ≡ made j l) → value (settle w own n i m) (3 * n + j) ≡ made j l
      by (yes e) ih =
          let u = untouched i b in
          rw e
          (get_or-set_same m (3 * n + i) (made i m) (pos 0) (rw (settled_only i (omega arith)).long (omega arith))
          ∙ ap₂ (V3 w (known_corners own (i / 3))) u.0 u.1)
      by (no e) ih = (only_set m (3 * n + i) (made i m)).other (3 * n + j) (λ p q. e (omega arith)) ∙ ih e
