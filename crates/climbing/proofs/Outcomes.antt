-- The question where it is done: `question_done`. What 1 to 7 leave for the test of 17, `within`, and its outcomes, `not_there`, `there`;
-- what all checks leave for the climb, `climbable`, `in_level`. Answers that say the same are the same (`asked-alike`). Assumes nothing.
use Prim.Native.Nat.{ℕ, zero, suc, ◌*◌, ◌≤◌, ◌<◌}
use Rattle.std.specs.Prelude.{Result}
use mathlib.Core.Path.{◌≡◌, refl, sym, ap, ◌∙◌}
use mathlib.Core.List.{List, [], ◌∷◌}
use native.Mathlib.Omega.{arith}
use lib.Dec.{leb}
use lib.ListN.{length}
use borrow.Author.Tests.{le-leb, lt-leb, leb-false}
use Rattle.halfedges.specs.declared.refusal.Refusal.{Refusal}
use Rattle.halfedges.specs.declared.table.HalfedgeTable.{HalfedgeTable}
use Rattle.halfedges.specs.Cage.{most_halfedges, most_depth}
use Rattle.halfedges.specs.Refusals.{Verdict, DONE, NO_SUCH_HALFEDGE, given, first, said}
use Rattle.halfedges.specs.Counts.{counts_at, Hs}
use Rattle.halfedges.specs.Internal.Counts.{AtMost}
use Rattle.halfedges.proofs.Checks.{first_more, done_both, done_passes}
use Rattle.halfedges.proofs.Told.{answered-alike}
use Rattle.tables.specs.Tables.{Tables, counts_of}
use Rattle.tables.specs.Check.{table_checks}
use Rattle.splitting.specs.NextLevel.{level}
use Rattle.levels.proofs.Granted.{granted}
use Rattle.climbing.specs.declared.rows.Cells.{Cells}
use Rattle.climbing.specs.Halfedge.{cells_of, no_cells, halfedge_checks, halfedge_question, asked}
use Rattle.climbing.specs.Internal.Climbing.{Climbable}

-- H of a level goes by the cage's H alone
same_halfedges : (t u : HalfedgeTable) → t.halfedges ≡ u.halfedges → (d : ℕ) → Hs t d ≡ Hs u d
unfolding counts_at
same_halfedges t u e zero = e
same_halfedges t u e (suc d) = ap (λ n. 4 * n) (same_halfedges t u e d)

module _ (c : Tables) (v depth h : ℕ) where
  -- 17
  abbrev last : List Verdict
  last = given (leb (Hs (counts_of c v) depth) h) (NO_SUCH_HALFEDGE h) ∷ []

  module _ (d : first (table_checks c v depth) ≡ DONE) where
    no_such : Hs (counts_of c v) depth ≤ h → first (halfedge_checks c v depth h) ≡ NO_SUCH_HALFEDGE h
    unfolding halfedge_checks first given
    no_such l = first_more (table_checks c v depth) last d ∙ simp (le-leb (Hs (counts_of c v) depth) h l)

    all_pass : h < Hs (counts_of c v) depth → first (halfedge_checks c v depth h) ≡ DONE
    unfolding halfedge_checks first given
    all_pass l = first_more (table_checks c v depth) last d ∙ simp (lt-leb (Hs (counts_of c v) depth) h l)

    pub question_done : h < Hs (counts_of c v) depth → halfedge_question c v depth h ≡ record { verdict = DONE; values = cells_of (level (counts_of c v) c depth) h }
    unfolding halfedge_question said
    question_done l = rw (all_pass l)

  -- as the code goes, where 1 to 7 pass: the cage's counts as the code has them here, without E
  abbrev counts : HalfedgeTable
  counts = record { halfedges = length c.twin; edges = 0; vertices = v }

  module _ (e : DONE ≡ first (table_checks c v depth)) where
    pub within : AtMost most_halfedges counts × (depth ≤ most_depth)
    within =
        let g = granted c v depth (sym e) in
        (record { halfedges = g.small.halfedges; edges = omega arith; vertices = g.small.vertices }, g.shallow)

    module _ {u : HalfedgeTable} (q : u ≡ counts_at counts depth) where
      level_halfedges : u.halfedges ≡ Hs (counts_of c v) depth
      level_halfedges = ap (λ w. w.halfedges) q ∙ same_halfedges counts (counts_of c v) refl depth

      pub not_there : u.halfedges ≤ h → NO_SUCH_HALFEDGE h ≡ first (halfedge_checks c v depth h)
      not_there l = sym (no_such (sym e) (rw level_halfedges at l))

      pub there : h < u.halfedges → DONE ≡ first (halfedge_checks c v depth h)
      there l = sym (all_pass (sym e) (rw level_halfedges at l))

  -- where all pass
  module _ (e : DONE ≡ first (halfedge_checks c v depth h)) {t : HalfedgeTable} (p : t ≡ counts_of c v) where
    both : (first (table_checks c v depth) ≡ DONE) × (first last ≡ DONE)
    unfolding halfedge_checks
    both = done_both (table_checks c v depth) last (sym e)

    pub climbable : Climbable t depth c
    climbable = let g = granted c v depth both.0 in rw p (record { sound = g.sound; small = g.small; shallow = g.shallow })

    pub in_level : h < Hs t depth
    in_level = rw p (leb-false _ _ (done_passes _ (NO_SUCH_HALFEDGE h) [] refl both.1).0)

-- a promise determines the result
pub asked-alike : (a b : Result Cells Refusal) → asked a ≡ asked b → a ≡ b
asked-alike = answered-alike (λ x. x) no_cells (λ a b e. e)
