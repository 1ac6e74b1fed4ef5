-- Fields with questions between them pass exactly where the fields and the questions do (`fields_and_asked`, `front_to_back_lem`). The tables'
-- fields come first, alone (`tables_alone`) or with a question after them (`tables-asked`). Assumes nothing.
use Prim.Native.Nat.{ℕ, ◌+◌, ◌*◌}
use mathlib.Core.Path.{◌≡◌, refl, ap, ◌∙◌}
use mathlib.Core.List.{List, [], ◌∷◌, ◌++◌, append_assoc, append-nil}
use native.Mathlib.Omega.{arith}
use Rattle.halfedges.specs.Refusals.{Verdict, DONE, first}
use Rattle.halfedges.proofs.Checks.{first_more, done_both}
use Rattle.cagefile.specs.Fields.{Head, opening, table_heads}
use Rattle.filechecks.specs.Contents.{past}
use Rattle.filechecks.specs.FileChecks.{field_checks, fields_checks, Asked, nothing, front_to_back}
use Rattle.filechecks.specs.Internal.Sound.{front_checks}

-- the questions alone, each by the offset of its field's head
abbrev pub questions : ℕ → List Asked → List Head → List Verdict
questions at [] hs = []
questions at (q ∷ qs) [] = []
questions at (q ∷ qs) (h ∷ hs) = q at ++ questions (past at h) qs hs

module _ (f : List ℕ) where
  pub fields_and_asked : (qs : List Asked) (hs : List Head) (at : ℕ) → first (front_to_back f at qs hs) ≡ DONE → (first (fields_checks f at hs) ≡ DONE) × (first (questions at qs hs) ≡ DONE)
  unfolding front_to_back fields_checks first
  fields_and_asked [] hs at e = (e, refl)
  fields_and_asked (q ∷ qs) [] at e = (e, refl)
  fields_and_asked (q ∷ qs) (h ∷ hs) at e =
      let a = done_both (field_checks f at h) _ e in
      let b = done_both (q at) (front_to_back f (past at h) qs hs) a.1 in
      let rest = fields_and_asked qs hs (past at h) b.1 in
      (first_more (field_checks f at h) _ a.0 ∙ rest.0, first_more (q at) _ b.0 ∙ rest.1)

  pub front_to_back_lem : (qs : List Asked) (hs : List Head) (at : ℕ) → first (fields_checks f at hs) ≡ DONE → first (questions at qs hs) ≡ DONE → first (front_to_back f at qs hs) ≡ DONE
  unfolding front_to_back fields_checks first
  front_to_back_lem [] hs at e d = e
  front_to_back_lem (q ∷ qs) [] at e d = e
  front_to_back_lem (q ∷ qs) (h ∷ hs) at e d =
      let a = done_both (field_checks f at h) (fields_checks f (past at h) hs) e in
      let b = done_both (q at) (questions (past at h) qs hs) d in
      first_more (field_checks f at h) _ a.0 ∙ first_more (q at) _ b.0 ∙ front_to_back_lem qs hs (past at h) a.1 b.1

-- ---- the tables' fields, and what comes after them

regroup : (a b c : List Verdict) {r s : List Verdict} → r ≡ s → a ++ (b ++ (c ++ r)) ≡ (a ++ (b ++ (c ++ []))) ++ s
regroup a b c {r} {s} e = rw e (simp (append_assoc, append-nil))

module _ (f : List ℕ) (H : ℕ) (hs : List Head) where
  -- a table's field at an offset
  abbrev at : ℕ → ℕ → List Verdict
  at tag offset = field_checks f offset (record { tag = tag; size = 2 * H })

  -- where the field after them has its head
  ends : past 0 opening + 3 + 2 * H + 3 + 2 * H + 3 + 2 * H ≡ 18 + 6 * H
  ends = omega arith

  pub tables_alone : fields_checks f (past 0 opening) (table_heads H ++ hs) ≡ front_checks f (past 0 opening) (table_heads H) ++ fields_checks f (18 + 6 * H) hs
  unfolding table_heads fields_checks front_checks
  tables_alone = regroup (at 0x20 (past 0 opening)) (at 0x21 (12 + 2 * H)) (at 0x22 (12 + 2 * H + 3 + 2 * H)) (ap (λ end. fields_checks f end hs) ends)

  pub tables-asked : (q : Asked) (qs : List Asked) → front_to_back f (past 0 opening) (nothing ∷ nothing ∷ q ∷ qs) (table_heads H ++ hs) ≡ front_checks f (past 0 opening) (table_heads H) ++ (q (past 0 opening + 3 + 2 * H + 3 + 2 * H) ++ front_to_back f (18 + 6 * H) qs hs)
  unfolding table_heads front_to_back front_checks
  tables-asked q qs = regroup (at 0x20 (past 0 opening)) (at 0x21 (12 + 2 * H)) (at 0x22 (12 + 2 * H + 3 + 2 * H)) (ap (λ end. q (past 0 opening + 3 + 2 * H + 3 + 2 * H) ++ front_to_back f end qs hs) ends)
