-- Where the checks of a file stop: at a number without clauses, or in form 2 at 3, and then the tables are whole (`stopped`). So whatever
-- the check of a file answers, enough is found for its clause (`file_found`, `file_whole`). Assumes nothing.
use Prim.Native.Nat.{ℕ, ◌+◌, ◌*◌, ◌≤◌}
use mathlib.Core.Path.{◌≡◌, sym, ap, subst, ◌∙◌}
use mathlib.Core.Logic.{◌⊎◌, inl, inr, ⊎_elim}
use mathlib.Core.Bool.{Bool, true, false}
use mathlib.Core.List.{List, [], ◌∷◌, ◌++◌}
use native.Mathlib.Decide.{ℕ_discrete}
use native.Mathlib.Omega.{arith}
use lib.ListN.{length}
use borrow.Author.Tests.{eq-eqb, ne_eqb}
use Rattle.laws.specs.Below.{any, lowest}
use Rattle.laws.proofs.Tests.{by-test, any_false}
use Rattle.laws.proofs.Lowest.{below_lowest, lowest_of_some}
use Rattle.halfedges.specs.Cage.{most_halfedges, most_vertices}
use Rattle.halfedges.specs.Refusals.{Verdict, DONE, SHAPE, LIMIT, TWIN, SHORT, FIELD, EXTRA, given, given_at, first, said}
use Rattle.halfedges.proofs.Checks.{clean_done, given_here, first-refused, first_passed, first_zero, first_more, first_refused_before}
use Rattle.tables.specs.Tables.{Tables}
use Rattle.tables.specs.Rules.{bad_twin}
use Rattle.points.specs.Operations.{vertices, check_creased}
use Rattle.clauses.specs.Internal.Reached.{BrokenAt, Reached}
use Rattle.clauses.proofs.Explained.{Plain}
use Rattle.why.proofs.Found.{found}
use Rattle.cagefile.specs.declared.fields.Form.{Form}
use Rattle.cagefile.specs.declared.fields.Form.TheVariants.{One, Two}
use Rattle.cagefile.specs.Fields.{Head, opening}
use Rattle.filechecks.specs.Contents.{HIn, VIn, form_of, heads_in, twins_in, past, cage_in}
use Rattle.filechecks.specs.FileChecks.{field_checks, fields_checks, Asked, opening_asked, twins_asked, weight_asked, front_to_back, file_checks, both}
use Rattle.filechecks.specs.Internal.Sound.{front_checks}
use Rattle.filechecks.proofs.Lengths.{twins-length}
use Rattle.filechecks.proofs.Sound.{opening_kept, checks_sound, sound_length}
use Rattle.filechecks.proofs.AfterTables.{left, creased_left, left_one, left_two, tables_whole}
use Rattle.intake.specs.Intake.{check_file}

-- ---- checks whose numbers have no clauses

data Unnamed : List Verdict → Type 0 where
  none : Unnamed []
  also : {v : Verdict} {vs : List Verdict} → Plain v.number → Unnamed vs → Unnamed (v ∷ vs)

plain-given : (test : Bool) (v : Verdict) → Plain v.number → Plain (given test v).number
unfolding given
plain-given true v p = p
plain-given false v p = inl (omega arith)

unnamed_both : {vs ws : List Verdict} → Unnamed vs → Unnamed ws → Unnamed (vs ++ ws)
unnamed_both none u = u
unnamed_both (also p t) u = also p (unnamed_both t u)

number : {v w : Verdict} → v ≡ w → v.number ≡ w.number
number e = ap (λ u. u.number) e

first_plain : {vs : List Verdict} → Unnamed vs → Plain (first vs).number
unfolding first
first_plain none = inl (omega arith)
first_plain (also {v = v} {vs = vs} p t) = by (ℕ_discrete v.number 0) (first_plain t)
  where
    by : Dec (v.number ≡ 0) → Plain (first vs).number → Plain (first (v ∷ vs)).number
    by (yes z) q = subst Plain (number (sym (first_passed v vs z))) q
    by (no r) q = subst Plain (number (sym (first-refused v vs r))) p

-- what comes after such checks counts only where they pass
past_unnamed : {vs : List Verdict} → Unnamed vs → (ws : List Verdict) → Plain (first (vs ++ ws)).number ⊎ ((first vs ≡ DONE) × (first (vs ++ ws) ≡ first ws))
past_unnamed {vs} t ws = by (ℕ_discrete (first vs).number 0)
  where
    by : Dec ((first vs).number ≡ 0) → Plain (first (vs ++ ws)).number ⊎ ((first vs ≡ DONE) × (first (vs ++ ws) ≡ first ws))
    by (yes z) = let d = first_zero vs z in inr (d, first_more vs ws d)
    by (no r) = inl (subst Plain (number (sym (first_refused_before ws vs r))) (first_plain t))

-- ---- a file's fields

module _ (f : List ℕ) where
  field_unnamed : (at : ℕ) (h : Head) → Unnamed (field_checks f at h)
  unfolding field_checks
  field_unnamed at h =
      also (plain-given _ (SHORT at) (inr (omega arith))) (also (plain-given _ (FIELD at) (inr (omega arith))) (also (plain-given _ (SHORT at) (inr (omega arith))) none))

  fields_unnamed : (hs : List Head) (at : ℕ) → Unnamed (fields_checks f at hs)
  unfolding fields_checks
  fields_unnamed [] at = also (plain-given _ (EXTRA at) (inr (omega arith))) none
  fields_unnamed (h ∷ hs) at = unnamed_both (field_unnamed at h) (fields_unnamed hs (past at h))

  front_unnamed : (hs : List Head) (at : ℕ) → Unnamed (front_checks f at hs)
  unfolding front_checks
  front_unnamed [] at = none
  front_unnamed (h ∷ hs) at = unnamed_both (field_unnamed at h) (front_unnamed hs (past at h))

  data AskedUnnamed : List Asked → Type 0 where
    no_more : AskedUnnamed []
    asking : {q : Asked} {qs : List Asked} → ((at : ℕ) → Unnamed (q at)) → AskedUnnamed qs → AskedUnnamed (q ∷ qs)

  asked_unnamed : {qs : List Asked} → AskedUnnamed qs → (hs : List Head) (at : ℕ) → Unnamed (front_to_back f at qs hs)
  unfolding front_to_back
  asked_unnamed no_more hs at = fields_unnamed hs at
  asked_unnamed (asking q qs) [] at = fields_unnamed [] at
  asked_unnamed (asking q qs) (h ∷ hs) at = unnamed_both (field_unnamed at h) (unnamed_both (q at) (asked_unnamed qs hs (past at h)))

  opening_unnamed : (at : ℕ) → Unnamed (opening_asked both f at)
  unfolding opening_asked
  opening_unnamed at = also (plain-given _ (FIELD at) (inr (omega arith))) (also (plain-given _ SHAPE (inl (omega arith))) (also (plain-given _ LIMIT (inl (omega arith))) none))

  weight_unnamed : (at : ℕ) → Unnamed (weight_asked f at)
  unfolding weight_asked
  weight_unnamed at = also (plain-given _ (FIELD at) (inr (omega arith))) none

-- ---- where they stop

pub data Stopped (f : List ℕ) (w : Verdict) : Type 0 where
  elsewhere : Plain w.number → Stopped f w
  at_twin : (h : ℕ) → w ≡ TWIN h → BrokenAt (HIn f) (bad_twin (twins_in f)) h → HIn f ≤ most_halfedges → VIn f ≤ most_vertices → 18 + 6 * HIn f ≤ length f → Stopped f w

module _ (f : List ℕ) where
  -- rule 3, and what comes after it
  twins_stop : (after : List Verdict) → Unnamed after → HIn f ≤ most_halfedges → VIn f ≤ most_vertices → 18 + 6 * HIn f ≤ length f → Stopped f (first (given_at (HIn f) (bad_twin (twins_in f)) TWIN ∷ after))
  twins_stop after t few less whole = by-test (any (HIn f) (bad_twin (twins_in f))) here on
    where
      n : ℕ
      n = HIn f

      bad : ℕ → Bool
      bad = bad_twin (twins_in f)

      here : any n bad ≡ true → Stopped f (first (given_at n bad TWIN ∷ after))
      here e =
          let l = lowest_of_some n bad e in
          let g = given_here n bad TWIN (lowest n bad) l.0 l.1 (below_lowest n bad) in
          at_twin (lowest n bad) (first-refused _ after (λ z. omega (arith, number (sym g) ∙ z)) ∙ g) (record { below = l.0; broken = l.1 }) few less whole

      on : any n bad ≡ false → Stopped f (first (given_at n bad TWIN ∷ after))
      on e = elsewhere (subst Plain (number (sym (first_passed _ after (number (clean_done n bad TWIN (any_false bad n e)))))) (first_plain t))

  after_opening : (form : Form) → HIn f ≤ most_halfedges → VIn f ≤ most_vertices → Stopped f (first (left f form))
  unfolding twins_asked
  after_opening One few less = rw (left_one f) (elsewhere (first_plain (unnamed_both (front_unnamed f _ _) (fields_unnamed f _ _))))
  after_opening Two few less =
      rw (left_two f)
      (⊎_elim elsewhere
      (λ d. rw d.1 (twins_stop _ (asked_unnamed f (asking (λ _. none) (asking (λ _. none) (asking (weight_unnamed f) no_more))) _ _) few less (tables_whole f (HIn f) d.0)))
      (past_unnamed (front_unnamed f _ _) (creased_left f)))

  pub stopped : Stopped f (first (file_checks both f))
  unfolding file_checks front_to_back heads_in
  stopped =
      ⊎_elim elsewhere
      (λ a. rw a.1
      (⊎_elim elsewhere
      (λ b. let k = opening_kept both f 0 b.0 in rw b.1 (after_opening (form_of f) k.1 k.2))
      (past_unnamed (opening_unnamed f 0) (left f (form_of f)))))
      (past_unnamed (field_unnamed f 0 opening) (opening_asked both f 0 ++ left f (form_of f)))

-- ---- what is found

not_plain : {n : ℕ} (k : ℕ) → Plain n → n ≡ k → 3 ≤ k → k ≤ 7 → ⊥
not_plain k (inl l) e a b = omega arith
not_plain k (inr l) e a b = omega arith

reached_plain : (c : Tables) (v : ℕ) (w : Verdict) → Plain w.number → Reached c v w
reached_plain c v w p =
    record {
      twin_at = λ e. absurd (not_plain 3 p e (omega arith) (omega arith));
      vertex_at = λ e. absurd (not_plain 4 p e (omega arith) (omega arith));
      unused_at = λ e. absurd (not_plain 5 p e (omega arith) (omega arith));
      edge_at = λ e. absurd (not_plain 6 p e (omega arith) (omega arith));
      fan_at = λ e. absurd (not_plain 7 p e (omega arith) (omega arith));
    }

module _ (f : List ℕ) where
  abbrev c : Tables
  c = (cage_in f).connectivity

  abbrev v : ℕ
  v = vertices (cage_in f).points

  -- the verdict is the file's, or the cage's
  data Told : Type 0 where
    of_file : (check_file f).verdict ≡ first (file_checks both f) → Told
    of_cage : first (file_checks both f) ≡ DONE → (check_file f).verdict ≡ (check_creased c (cage_in f).creases (cage_in f).points).verdict → Told

  told_by : Told
  unfolding check_file
  told_by = by (ℕ_discrete (first (file_checks both f)).number 0)
    where
      by : Dec ((first (file_checks both f)).number ≡ 0) → Told
      by (yes z) = of_cage (first_zero _ z) (rw (eq-eqb (first (file_checks both f)).number 0 z))
      by (no r) = of_file (rw (ne_eqb (first (file_checks both f)).number 0 r))

  twin_found : (w : Verdict) → Stopped f w → Reached c v w
  unfolding cage_in
  twin_found w (elsewhere p) = reached_plain c v w p
  twin_found w (at_twin h e b few less whole) =
      let n : w.number ≡ 3 = number e in
      let p : h ≡ w.place = ap (λ u. u.place) (sym e) in
      record {
        twin_at = λ _. rw (twins-length f) (few, subst (BrokenAt (HIn f) (bad_twin (twins_in f))) p b);
        vertex_at = λ m. absurd (omega (arith, n, m));
        unused_at = λ m. absurd (omega (arith, n, m));
        edge_at = λ m. absurd (omega (arith, n, m));
        fan_at = λ m. absurd (omega (arith, n, m));
      }

  pub file_found : Reached c v (check_file f).verdict
  unfolding check_creased said
  file_found = by told_by
    where
      by : Told → Reached c v (check_file f).verdict
      by (of_file e) = rw e (twin_found _ (stopped f))
      by (of_cage d e) = rw e (found c (cage_in f).creases (cage_in f).points)

  pub file_whole : 3 ≤ (check_file f).verdict.number → (check_file f).verdict.number ≤ 7 → (HIn f ≤ most_halfedges) × (18 + 6 * HIn f ≤ length f)
  file_whole l m = by told_by
    where
      at : (w : Verdict) → (check_file f).verdict ≡ w → Stopped f w → (HIn f ≤ most_halfedges) × (18 + 6 * HIn f ≤ length f)
      at w e (elsewhere p) = absurd (not_plain (check_file f).verdict.number p (number (sym e)) l m)
      at w e (at_twin h q b few less whole) = (few, whole)

      by : Told → (HIn f ≤ most_halfedges) × (18 + 6 * HIn f ≤ length f)
      by (of_file e) = at _ e (stopped f)
      by (of_cage d e) = let s = checks_sound f both d in (s.few_halfedges, omega (arith, sound_length f s))
