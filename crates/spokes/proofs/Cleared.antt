-- What the pass leaves that makes the sums 0: `cleared_only`, `cleared_all`. Assumes nothing.
use Prim.Native.Nat.{ℕ, zero, suc, ◌+◌, ◌*◌, ◌≤◌, ◌<◌}
use mathlib.Core.Path.{◌≡◌, sym, ap, ◌∙◌}
use mathlib.Core.List.{List, []}
use native.Mathlib.Decide.{ℕ_discrete}
use native.Mathlib.Nat.{le_refl, not-suc-le-zero}
use native.Mathlib.Omega.{arith}
use lib.IntN.{ℤ, pos}
use lib.ListN.{length, set, replicate, length-replicate}
use lib.Seq.{get_or-set_same, paste}
use borrow.Rule.Slice.PartMut.{put_mid}
use Rattle.std.proofs.lemmas.List.Edits.{paste_none, fill_from_more}
use Rattle.std.proofs.lemmas.Slice.{put_mid-paste}
use Rattle.laws.specs.Internal.Steps.{steps}
use Rattle.points.specs.Internal.Cells.{value}
use Rattle.spokes.specs.Internal.Sums.{clear_cell, Cleared}
use Rattle.points.proofs.Only.{Only, only_wider, only_set, only_steps}

module _ (n : ℕ) (l : List ℤ) (room : 6 * n ≤ length l) where
  pub cleared_only : (i : ℕ) → i ≤ 3 * n → Only (3 * n) (6 * n) l (steps i (clear_cell n) l)
  unfolding clear_cell
  cleared_only =
      only_steps (3 * n) (6 * n) (3 * n) (clear_cell n) l
      (λ i b m e. only_wider (3 * n) (6 * n) (omega arith) (omega arith) (only_set m (3 * n + i) (pos 0)))

  -- cells made 0 one by one are those of a fill
  cleared_is : (i : ℕ) → i ≤ 3 * n → steps i (clear_cell n) l ≡ paste l (3 * n) (replicate i (pos 0)) i
  unfolding steps clear_cell
  cleared_is zero b = paste_none l (3 * n) []
  cleared_is (suc i) b =
      let e : i + 1 ≡ suc i = omega arith in
      ap (λ m. set m (3 * n + i) (pos 0)) (cleared_is i (omega arith)) ∙ fill_from_more l (3 * n) i (pos 0) (omega arith) ∙ ap (λ k. paste l (3 * n) (replicate k (pos 0)) k) e

  pub filled_is : {k : ℕ} {m : List ℤ} → k ≡ 3 * n → m ≡ replicate k (pos 0) → put_mid (3 * n) k l m ≡ steps (3 * n) (clear_cell n) l
  filled_is {k} {m} e d = put_mid-paste (3 * n) k l m (replicate (3 * n) (pos 0)) (3 * n) (d ∙ ap (λ i. replicate i (pos 0)) e) (sym e) (sym (length-replicate (3 * n) (pos 0))) ∙ sym (cleared_is (3 * n) (le_refl _))

  cleared_cell : (i : ℕ) → i ≤ 3 * n → (j : ℕ) → j < i → value (steps i (clear_cell n) l) (3 * n + j) ≡ pos 0
  unfolding steps clear_cell
  cleared_cell zero b j lj = absurd (not-suc-le-zero lj)
  cleared_cell (suc i) b j lj = by (ℕ_discrete j i) (λ d. cleared_cell i (omega arith) j (omega (arith, d)))
    where
      m : List ℤ
      m = steps i (clear_cell n) l

      by : Dec (j ≡ i) → ((j ≡ i → ⊥) → value m (3 * n + j) ≡ pos 0) → value (clear_cell n i m) (3 * n + j) ≡ pos 0
      by (yes e) ih = rw e (get_or-set_same m (3 * n + i) (pos 0) (pos 0) (rw (cleared_only i (omega arith)).long (omega arith)))
      by (no e) ih = (only_set m (3 * n + i) (pos 0)).other (3 * n + j) (λ p q. e (omega arith)) ∙ ih e

  pub cleared_all : Cleared n (steps (3 * n) (clear_cell n) l)
  cleared_all = cleared_cell (3 * n) (le_refl _)
