-- What adding a point to a vertex's sums leaves in every cell: `add_to_only`, `add_to-sum`, and of a vertex's point: `add_point_only`,
-- `add_point-sum`; that one coordinate fits, `adds_fits`; and that a level stays laid, `laid_on`. Assumes nothing.
use Prim.Native.Nat.{ℕ, ◌+◌, ◌*◌, ◌<◌}
use mathlib.Core.Path.{◌≡◌, ap, ◌∙◌}
use mathlib.Core.Bool.{cond}
use mathlib.Core.List.{List}
use native.Mathlib.Decide.{ℕ_discrete}
use native.Mathlib.Nat.{le_refl}
use native.Mathlib.Omega.{arith}
use lib.Dec.{eqb}
use lib.IntN.{ℤ, pos, ◌+ℤ◌, +ℤ_idr}
use lib.ListN.{length}
use mir.Syntax.{w32}
use mir.Val.{SFits}
use mir.Facts.{to_z-of_z}
use borrow.Author.Tests.{eq-eqb, ne_eqb}
use Rattle.laws.proofs.Integers.{nat_abs_add, small_fits}
use Rattle.points.specs.NextPoints.{coordinate, point_of}
use Rattle.points.specs.Internal.Cells.{value, put}
use Rattle.points.proofs.Only.{Only, only_take, put_only, put_hit, stored}
use Rattle.points.proofs.Holding.{point_of_is}
use Rattle.spokes.specs.Internal.Sums.{Laid, add_to, AddsTo}
use Rattle.spokes.specs.Internal.Spokes.{add_point}

module _ (n v : ℕ) (p l : List ℤ) where
  -- coordinate k of the sums, with the point's
  abbrev more : ℕ → ℤ
  more k = value l (3 * n + 3 * v + k) +ℤ value p k

  pub add_to_only : Only (3 * n + 3 * v) (3 * n + 3 * v + 3) l (add_to n v p l)
  unfolding add_to
  add_to_only = put_only (3 * n + 3 * v) more l

  pub add_to-sum : 3 * n + 3 * v + 2 < length l → (x k : ℕ) → k < 3 → value (add_to n v p l) (3 * n + 3 * x + k) ≡ value l (3 * n + 3 * x + k) +ℤ cond (eqb v x) (value p k) (pos 0)
  unfolding add_to
  add_to-sum room x k lk = by (ℕ_discrete v x)
    where
      by : Dec (v ≡ x) → value (put (3 * n + 3 * v) more l) (3 * n + 3 * x + k) ≡ value l (3 * n + 3 * x + k) +ℤ cond (eqb v x) (value p k) (pos 0)
      by (yes e) = rw (eq-eqb v x e, ← e) (put_hit (3 * n + 3 * v) more l room k lk)
      by (no e) = rw (ne_eqb v x e, +ℤ_idr) ((put_only (3 * n + 3 * v) more l).other (3 * n + 3 * x + k) (λ p q. e (omega arith)))

module _ (n a b : ℕ) (l : List ℤ) where
  pub add_point_only : Only (3 * n + 3 * a) (3 * n + 3 * a + 3) l (add_point n a b l)
  unfolding add_point
  add_point_only = add_to_only n a (point_of l b) l

  pub add_point-sum : 3 * n + 3 * a + 2 < length l → (v k : ℕ) → k < 3 → value (add_point n a b l) (3 * n + 3 * v + k) ≡ value l (3 * n + 3 * v + k) +ℤ cond (eqb a v) (coordinate l k b) (pos 0)
  unfolding add_point
  add_point-sum room v k lk =
      add_to-sum n a (point_of l b) l room v k lk ∙ ap (λ z. value l (3 * n + 3 * v + k) +ℤ cond (eqb a v) z (pos 0)) (point_of_is l b k lk)

-- a coordinate of the sums with the point's, as numbers are kept
module _ {n v : ℕ} {p l : List ℤ} (adds : AddsTo n v p l) (k : ℕ) (lk : k < 3) where
  abbrev a : ℤ
  a = value l (3 * n + 3 * v + k)

  abbrev b : ℤ
  b = value p k

  kept : (stored a ≡ a) × (stored b ≡ b)
  kept = let fits = adds.fits k lk in (to_z-of_z (small_fits w32 a (omega (arith, fits))), to_z-of_z (small_fits w32 b (omega (arith, fits))))

  all_fits : SFits w32 (a +ℤ b)
  all_fits = small_fits w32 (a +ℤ b) (omega (arith, adds.fits k lk, nat_abs_add a b))

  pub adds_fits : SFits w32 (stored a +ℤ stored b)
  adds_fits = simp (kept.0, kept.1) all_fits

  pub sum_is : stored (stored a +ℤ stored b) ≡ a +ℤ b
  sum_is = simp (kept.0, kept.1) (to_z-of_z all_fits)

-- a level stays laid where the passes change only what comes after it
pub laid_on : {n to : ℕ} {l m : List ℤ} → Laid n l → Only (3 * n) to l m → Laid n m
laid_on {n} laid only =
    record { room = rw only.long laid.room; in_range = rw (only_take (3 * n) (le_refl _) (omega (arith, laid.room)) only) laid.in_range }
