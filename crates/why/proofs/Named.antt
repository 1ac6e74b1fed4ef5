-- Every answer is explained in plain words: `cage_explained`. An accepted cage gets no clause (`accepted_none`), a refusal from 3 to 7
-- clause 1, 2 or 3 (`refused_named`), any other none (`others_none`). Answers that say the same are the same (`why_alike`).
-- Assumes nothing.
use Prim.Native.Nat.{ℕ, ◌≤◌}
use Rattle.std.specs.Prelude.{Result, Ok, Err, ⊤}
use mathlib.Core.Path.{◌≡◌, refl, sym, ap, ◌∙◌}
use mathlib.Core.Logic.{◌≢◌, inl}
use mathlib.Core.List.{List}
use native.Mathlib.Omega.{arith}
use lib.IntN.{ℤ}
use Rattle.halfedges.specs.Refusals.{DONE, said}
use Rattle.halfedges.proofs.Told.{refused-alike, refused_number}
use Rattle.tables.specs.Tables.{Tables}
use Rattle.points.specs.Operations.{vertices, check_creased}
use Rattle.clauses.specs.Clauses.{no_clause}
use Rattle.clauses.specs.Explained.{Explained}
use Rattle.clauses.proofs.Explained.{Plain, Named, explained, clause_named, no_clause_lem}
use Rattle.clauses.proofs.Alike.{clause_alike, clause_number, broken_place, broken_number}
use Rattle.why.specs.declared.Why.{Why}
use Rattle.why.specs.declared.Why.TheVariants.{Broken, Refused}
use Rattle.why.specs.Why.{why_cage, reason, explains}
use Rattle.why.proofs.Found.{found}

module _ (c : Tables) (creases : List ℕ) (points : List ℤ) where
  pub cage_explained : Explained c (vertices points) (why_cage c creases points).verdict (why_cage c creases points).values
  unfolding why_cage check_creased said
  cage_explained = explained c (vertices points) _ (found c creases points)

  pub refused_named : 3 ≤ (why_cage c creases points).verdict.number → (why_cage c creases points).verdict.number ≤ 7 → Named (why_cage c creases points).values
  refused_named l m = clause_named l m cage_explained

  pub others_none : Plain (why_cage c creases points).verdict.number → (why_cage c creases points).values ≡ no_clause
  unfolding why_cage
  others_none p = no_clause_lem c (vertices points) (check_creased c creases points).verdict p

  pub accepted_none : (check_creased c creases points).verdict ≡ DONE → why_cage c creases points ≡ record { verdict = DONE; values = no_clause }
  unfolding why_cage
  accepted_none e = rw (e, no_clause_lem c (vertices points) DONE (inl (omega arith)))

-- a promise determines the result
reason_alike : (a b : Why) → reason a ≡ reason b → a ≡ b
reason_alike (Broken k p) (Broken l q) e =
    let v = ap (λ s. s.verdict) e in
    let k_is = clause_alike k l p q v (ap (λ s. s.values) e) in
    let p_is = sym (broken_place k p) ∙ ap (λ w. w.place) v ∙ broken_place l q in
    λ i. Broken (k_is i) (p_is i)
reason_alike (Broken k p) (Refused r) e = absurd (clause_number k (ap (λ s. s.values.number) e))
reason_alike (Refused r) (Broken k p) e = absurd (clause_number k (ap (λ s. s.values.number) (sym e)))
reason_alike (Refused r) (Refused q) e = ap Refused (refused-alike r q (ap (λ s. s.verdict) e))

reason_refused : (a : Why) → (reason a).verdict ≢ DONE
reason_refused (Broken k p) e = broken_number k p (ap (λ v. v.number) e)
reason_refused (Refused r) e = refused_number r (ap (λ v. v.number) e)

pub why_alike : (a b : Result ⊤ Why) → explains a ≡ explains b → a ≡ b
why_alike (Ok a) (Ok b) e = refl
why_alike (Ok a) (Err w) e = absurd (reason_refused w (ap (λ s. s.verdict) (sym e)))
why_alike (Err w) (Ok b) e = absurd (reason_refused w (ap (λ s. s.verdict) e))
why_alike (Err a) (Err b) e = ap Err (reason_alike a b e)
