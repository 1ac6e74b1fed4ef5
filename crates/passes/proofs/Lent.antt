-- A level's part of the table, lent: the part asks what the whole does (`ready_part`), and put back it is the whole with the
-- next level (`part_back`); what comes from a place on, put back, is `put_rest`, and the next level one of the part, `next-part`. Assumes
-- nothing.
use Prim.Native.Nat.{ℕ, ◌+◌, ◌-◌, ◌*◌}
use mathlib.Core.Path.{◌≡◌, sym, ap, ◌∙◌}
use mathlib.Core.List.{List, ◌++◌, append_assoc, append-nil}
use native.Mathlib.Nat.{zero-add}
use native.Mathlib.Omega.{arith}
use lib.IntN.{ℤ}
use lib.ListN.{length, take, drop, length-drop}
use lib.Seq.{take-add, drop-drop}
use borrow.Rule.Slice.PartMut.{put_mid, mid_of}
use Rattle.laws.proofs.Middles.{rest_whole, rest_none}
use Rattle.halfedges.specs.declared.table.HalfedgeTable.{HalfedgeTable}
use Rattle.tables.specs.Tables.{Tables}
use Rattle.points.specs.declared.weights.Weight.{Weight}
use Rattle.passes.specs.Internal.Levels.{next_end, with_next, Ready}

-- how many cells there are from a place to n past it
pub span : (a n : ℕ) → a + n - a ≡ n
span a n = omega arith

-- all from a place on, put back
pub put_rest : (at : ℕ) (points rest : List ℤ) → put_mid at (length points - at) points rest ≡ take at points ++ rest
put_rest at points rest = rw (rest_none points at, append-nil)

module _ (t : HalfedgeTable) (c : Tables) (at : ℕ) (points : List ℤ) where
  pub ready_part : {own : List ℕ} {before : ℕ} → Ready own before t c at points → Ready own before t c 0 (mid_of at (length points - at) points)
  ready_part ready =
      rw (rest_whole points at)
      (record { relied = ready.relied; known = ready.known; fourfold = ready.fourfold; short = ready.short; in_range = ready.in_range; room = rw (length-drop at points) (omega (arith, ready.room)) })

  pub next-part : (w : Weight) (creases : List ℕ) → with_next w t c creases at points ≡ take at points ++ with_next w t c creases 0 (drop at points)
  unfolding with_next
  next-part w creases =
      let past : drop (next_end t at) points ≡ drop (next_end t 0) (drop at points) = (let e : next_end t at ≡ at + next_end t 0 = omega arith in ap (λ k. drop k points) e) ∙ sym (drop-drop (next_end t 0) at points) in
      let own : take (at + 3 * t.vertices) points ≡ take at points ++ take (0 + 3 * t.vertices) (drop at points) = take-add at (3 * t.vertices) points ∙ ap (λ k. take at points ++ take k (drop at points)) (sym (zero-add (3 * t.vertices))) in
      rw (past, own) (append_assoc (take at points) (take (0 + 3 * t.vertices) (drop at points)) _)

  pub part_back : (w : Weight) (creases : List ℕ) → put_mid at (length points - at) points (with_next w t c creases 0 (mid_of at (length points - at) points)) ≡ with_next w t c creases at points
  part_back w creases = ap (λ q. put_mid at (length points - at) points (with_next w t c creases 0 q)) (rest_whole points at) ∙ put_rest at points _ ∙ sym (next-part w creases)
