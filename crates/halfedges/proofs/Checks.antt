-- Laws of checks: when one is given and where, and which of a list is the answer. Assumes nothing.
use Prim.Native.Nat.{ℕ, ◌<◌}
use mathlib.Core.Path.{◌≡◌, refl, sym, ap, ◌∙◌}
use mathlib.Core.Logic.{◌≢◌}
use mathlib.Core.Bool.{Bool, true, false}
use mathlib.Core.List.{List, [], ◌∷◌, ◌++◌}
use native.Mathlib.Decide.{ℕ_discrete}
use lib.Dec.{eqb}
use borrow.Author.Tests.{eq-eqb, ne_eqb, eqb-false}
use Rattle.laws.specs.Below.{any, lowest}
use Rattle.laws.proofs.Tests.{by-test, any_false, false_any, true_any}
use Rattle.laws.proofs.Lowest.{lowest_is}
use Rattle.halfedges.specs.declared.refusal.Refusal.{Refusal}
use Rattle.halfedges.specs.Refusals.{Verdict, DONE, refused, given, given_at, first, said}
use Rattle.halfedges.proofs.Told.{refused_number}

-- a check is passed exactly where it is not given
pub is_passed : (test : Bool) (w : Verdict) → test ≡ false → (given test w).number ≡ 0
unfolding given
is_passed test w e = rw e

pub not_given : (test : Bool) (w : Verdict) → w.number ≢ 0 → (given test w).number ≡ 0 → test ≡ false
unfolding given
not_given true w n e = absurd (n e)
not_given false w n e = refl

-- no number below n is bad
abbrev pub Clean : ℕ → (ℕ → Bool) → Type 0
Clean n bad = (k : ℕ) → k < n → bad k ≡ false

module _ (n : ℕ) (bad : ℕ → Bool) (at : ℕ → Verdict) where
  pub clean_done : Clean n bad → given_at n bad at ≡ DONE
  unfolding given_at given
  clean_done f = rw (false_any bad n f)

  pub given_here : (k : ℕ) → k < n → bad k ≡ true → ((j : ℕ) → j < k → bad j ≡ false) → given_at n bad at ≡ at k
  unfolding given_at given
  given_here k l e f = rw (true_any bad n k l e, lowest_is n bad k l e f)

  pub passed_clean : ((k : ℕ) → (at k).number ≢ 0) → (given_at n bad at).number ≡ 0 → Clean n bad
  unfolding given_at given
  passed_clean r e = any_false bad n (by-test (any n bad) (λ t. absurd (r (lowest n bad) (rw t at e))) (λ f. f))

module _ (v : Verdict) (vs : List Verdict) where
  pub first-refused : v.number ≢ 0 → first (v ∷ vs) ≡ v
  unfolding first
  first-refused r = rw (ne_eqb v.number 0 r)

  pub first_passed : v.number ≡ 0 → first (v ∷ vs) ≡ first vs
  unfolding first
  first_passed e = rw (eq-eqb v.number 0 e)

-- every check of a list has the number 0
pub data AllPassed : List Verdict → Type 0 where
  none : AllPassed []
  also : {v : Verdict} {vs : List Verdict} → v.number ≡ 0 → AllPassed vs → AllPassed (v ∷ vs)

pub all_passed_done : {vs : List Verdict} → AllPassed vs → first vs ≡ DONE
unfolding first
all_passed_done none = refl
all_passed_done (also {v = v} {vs = vs} e a) = first_passed v vs e ∙ all_passed_done a

pub passed_all : (vs : List Verdict) → (first vs).number ≡ 0 → AllPassed vs
unfolding first
passed_all [] e = none
passed_all (v ∷ vs) e = by (ℕ_discrete v.number 0) (λ q. passed_all vs (ap (λ w. w.number) (sym (first_passed v vs q)) ∙ e))
  where
    by : Dec (v.number ≡ 0) → (v.number ≡ 0 → AllPassed vs) → AllPassed (v ∷ vs)
    by (yes q) rest = also q (rest q)
    by (no q) rest = absurd (q (ap (λ w. w.number) (sym (first-refused v vs q)) ∙ e))

-- a list of checks as the code goes through it: the first tells a refusal, or is passed
module _ {v : Verdict} (vs : List Verdict) where
  pub stops : (r : Refusal) → refused r ≡ v → refused r ≡ first (v ∷ vs)
  stops r e = e ∙ sym (first-refused v vs (rw (← e) (refused_number r)))

  pub passes : DONE ≡ v → first vs ≡ first (v ∷ vs)
  passes e = sym (first_passed v vs (ap (λ w. w.number) (sym e)))

-- a list of one check
pub given_alone : (n : ℕ) (bad : ℕ → Bool) (at : ℕ → Verdict) → ((k : ℕ) → (at k).number ≢ 0) → given_at n bad at ≡ first (given_at n bad at ∷ [])
unfolding first
given_alone n bad at r = by (ℕ_discrete (given_at n bad at).number 0)
  where
    by : Dec ((given_at n bad at).number ≡ 0) → given_at n bad at ≡ first (given_at n bad at ∷ [])
    by (yes z) = clean_done n bad at (passed_clean n bad at r z) ∙ sym (first_passed (given_at n bad at) [] z)
    by (no z) = sym (first-refused (given_at n bad at) [] z)

-- checks after others
module _ (ws : List Verdict) where
  pub first_refused_before : (vs : List Verdict) → (first vs).number ≢ 0 → first (vs ++ ws) ≡ first vs
  unfolding first
  first_refused_before [] r = absurd (r refl)
  first_refused_before (v ∷ vs) r = by (ℕ_discrete v.number 0) (λ q. first_refused_before vs q)
    where
      by : Dec (v.number ≡ 0) → ((first vs).number ≢ 0 → first (vs ++ ws) ≡ first vs) → first (v ∷ (vs ++ ws)) ≡ first (v ∷ vs)
      by (yes z) ih = let e = first_passed v vs z in first_passed v (vs ++ ws) z ∙ ih (λ q. r (ap (λ w. w.number) e ∙ q)) ∙ sym e
      by (no z) ih = first-refused v (vs ++ ws) z ∙ sym (first-refused v vs z)

  pub first_passed_before : {vs : List Verdict} → AllPassed vs → first (vs ++ ws) ≡ first ws
  first_passed_before none = refl
  first_passed_before (also {v = v} {vs = vs} z a) = first_passed v (vs ++ ws) z ∙ first_passed_before a

  pub passed_both : (vs : List Verdict) → AllPassed (vs ++ ws) → AllPassed vs × AllPassed ws
  passed_both [] a = (none, a)
  passed_both (v ∷ vs) (also z a) = let b = passed_both vs a in (also z b.0, b.1)

-- two lists of checks, of which the first is done, and as the code goes, which tells the first list's answer v
number : {v w : Verdict} → v ≡ w → v.number ≡ w.number
number e = ap (λ u. u.number) e

pub first_zero : (vs : List Verdict) → (first vs).number ≡ 0 → first vs ≡ DONE
first_zero vs z = all_passed_done (passed_all vs z)

module _ (vs ws : List Verdict) where
  pub first_more : first vs ≡ DONE → first (vs ++ ws) ≡ first ws
  first_more e = first_passed_before ws (passed_all vs (number e))

  pub done_both : first (vs ++ ws) ≡ DONE → (first vs ≡ DONE) × (first ws ≡ DONE)
  done_both e = let a = passed_both ws vs (passed_all (vs ++ ws) (number e)) in (all_passed_done a.0, all_passed_done a.1)

  pub stops_before : (r : Refusal) → refused r ≡ first vs → refused r ≡ first (vs ++ ws)
  stops_before r e = e ∙ sym (first_refused_before ws vs (rw (← e) (refused_number r)))

  pub passes_before : DONE ≡ first vs → first ws ≡ first (vs ++ ws)
  passes_before e = sym (first_more (sym e))

-- what is answered after a list of checks that tells v
module _ {A : Type 0} {v : Verdict} (values zeros : A) where
  pub said_refused : (r : Refusal) → refused r ≡ v → record { verdict = refused r; values = zeros } ≡ said v values zeros
  unfolding said
  said_refused r e = rw (← e, ne_eqb (refused r).number 0 (refused_number r)) refl

  pub said_done : {x : A} → DONE ≡ v → x ≡ values → record { verdict = DONE; values = x } ≡ said v values zeros
  unfolding said
  said_done e f = rw (← e) (ap (λ y. record { verdict = DONE; values = y }) f)

pub done_passes : (test : Bool) (v : Verdict) (vs : List Verdict) → eqb v.number 0 ≡ false → first (given test v ∷ vs) ≡ DONE → (test ≡ false) × (first vs ≡ DONE)
done_passes test v vs r e = by (passed_all _ (number e))
  where
    by : AllPassed (given test v ∷ vs) → (test ≡ false) × (first vs ≡ DONE)
    by (also a b) = (not_given test v (eqb-false v.number 0 r) a, all_passed_done b)

pub done_nowhere : (n : ℕ) (bad : ℕ → Bool) (at : ℕ → Verdict) (vs : List Verdict) → ((k : ℕ) → eqb (at k).number 0 ≡ false) → first (given_at n bad at ∷ vs) ≡ DONE → Clean n bad × (first vs ≡ DONE)
done_nowhere n bad at vs r e = by (passed_all _ (number e))
  where
    by : AllPassed (given_at n bad at ∷ vs) → Clean n bad × (first vs ≡ DONE)
    by (also a b) = (passed_clean n bad at (λ k. eqb-false (at k).number 0 (r k)) a, all_passed_done b)
