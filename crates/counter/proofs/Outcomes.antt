-- The reply by what the count question answered: `refused_reply`, `answered_reply`; a depth that was answered is at most 6 (`depth_kept`).
-- Assumes nothing.
use Prim.Native.Nat.{ℕ, ◌≤◌}
use mathlib.Core.Path.{◌≡◌, refl, sym, ap}
use mathlib.Core.List.{[], ◌∷◌}
use borrow.Author.Tests.{ne_eqb}
use Rattle.halfedges.specs.declared.refusal.Refusal.{Refusal}
use Rattle.halfedges.specs.declared.table.HalfedgeTable.{HalfedgeTable}
use Rattle.halfedges.specs.declared.table.Levels.{Levels}
use Rattle.halfedges.specs.Cage.{most_depth}
use Rattle.halfedges.specs.Refusals.{DONE, SHAPE, LIMIT, refused as told, given, said}
use Rattle.halfedges.specs.Counts.{count_shape, above_limit, no_levels, count_question}
use Rattle.halfedges.proofs.Checks.{done_passes}
use Rattle.halfedges.proofs.Questions.{limits_kept}
use Rattle.halfedges.proofs.Told.{refused_number}
use Rattle.text.specs.Replies.{answered, refused}
use Rattle.counter.specs.Counting.{count_lines, counting}

module _ (t : HalfedgeTable) (depth : ℕ) where
  pub refused_reply : (r : Refusal) → record { verdict = told r; values = no_levels } ≡ count_question t depth → refused (told r) ≡ counting t depth
  unfolding counting
  refused_reply r e = rw (← e, ne_eqb (told r).number 0 (refused_number r)) refl

  module _ {l : Levels} (e : record { verdict = DONE; values = l } ≡ count_question t depth) where
    pub answered_reply : answered (count_lines l depth) ≡ counting t depth
    unfolding counting
    answered_reply = rw (← e) refl

    pub depth_kept : depth ≤ most_depth
    unfolding count_question said
    depth_kept =
        let above = above_limit t.halfedges t.vertices depth in
        let shaped = done_passes (count_shape t) SHAPE (given above LIMIT ∷ []) refl (sym (ap (λ s. s.verdict) e)) in
        (limits_kept t.halfedges t.vertices depth (done_passes above LIMIT [] refl shaped.1).0).2
