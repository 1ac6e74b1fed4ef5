-- Checks by their numbers: where a number is given that one check of a list alone gives, those before it are passed, and what that one
-- looks for is found at the place (`found_at`). Assumes nothing.
use Prim.Native.Nat.{ℕ, zero, suc}
use mathlib.Core.Path.{◌≡◌, refl, sym, ap, subst, ◌∙◌}
use mathlib.Core.Logic.{◌≢◌}
use mathlib.Core.Bool.{Bool, true, false, not, ◌&&◌}
use mathlib.Core.List.{List, [], ◌∷◌}
use native.Mathlib.Decide.{ℕ_discrete}
use lib.Dec.{eqb}
use lib.ListN.{take, drop, get_or}
use borrow.Author.Tests.{eqb-false, not-true}
use Rattle.laws.specs.Below.{any, lowest}
use Rattle.laws.proofs.Tests.{and_true, by-test, any_false}
use Rattle.laws.proofs.Lowest.{below_lowest, lowest_of_some}
use Rattle.halfedges.specs.Refusals.{Verdict, DONE, given, given_at, first}
use Rattle.halfedges.proofs.Checks.{clean_done, given_here, first-refused, first_passed}
use Rattle.clauses.specs.Internal.Reached.{BrokenAt}

-- each check is passed or gives its number
pub data Gives : List ℕ → List Verdict → Type 0 where
  none : Gives [] []
  also : {n : ℕ} {v : Verdict} {ns : List ℕ} {vs : List Verdict} → (v.number ≢ 0 → v.number ≡ n) → Gives ns vs → Gives (n ∷ ns) (v ∷ vs)

pub gives : (test : Bool) (v : Verdict) → (given test v).number ≢ 0 → (given test v).number ≡ v.number
unfolding given
gives true v r = refl
gives false v r = absurd (r refl)

pub gives_at : (n : ℕ) (bad : ℕ → Bool) (at : ℕ → Verdict) {k : ℕ} → ((j : ℕ) → (at j).number ≡ k) → (given_at n bad at).number ≢ 0 → (given_at n bad at).number ≡ k
unfolding given_at
gives_at n bad at e r = gives (any n bad) (at (lowest n bad)) r ∙ e (lowest n bad)

-- k is none of these numbers
abbrev pub others : ℕ → List ℕ → Bool
others k [] = true
others k (n ∷ ns) = not (eqb n k) && others k ns

number : {v w : Verdict} → v ≡ w → v.number ≡ w.number
number e = ap (λ u. u.number) e

module _ (k : ℕ) (z : k ≢ 0) where
  -- the first check gives another number, so it is passed
  skipped : {n : ℕ} (v : Verdict) (vs : List Verdict) → (v.number ≢ 0 → v.number ≡ n) → eqb n k ≡ false → (first (v ∷ vs)).number ≡ k → v.number ≡ 0
  skipped v vs g o e = by (ℕ_discrete v.number 0)
    where
      by : Dec (v.number ≡ 0) → v.number ≡ 0
      by (yes q) = q
      by (no r) = absurd (eqb-false _ k o (sym (g r) ∙ number (sym (first-refused v vs r)) ∙ e))

  pub not_among : {ns : List ℕ} {vs : List Verdict} → Gives ns vs → others k ns ≡ true → (first vs).number ≢ k
  unfolding first
  not_among none o e = z (sym e)
  not_among (also {n = n} {v = v} {ns = ns} {vs = vs} g gs) o e =
      let a = and_true (not (eqb n k)) (others k ns) o in
      let p = skipped v vs g (not-true _ a.0) e in
      not_among gs a.1 (number (sym (first_passed v vs p)) ∙ e)

  module _ (n : ℕ) (bad : ℕ → Bool) (at : ℕ → Verdict) (numbered : (j : ℕ) → (at j).number ≡ k) (placed : (j : ℕ) → (at j).place ≡ j) where
    here : {ns : List ℕ} {vs : List Verdict} → Gives ns vs → others k ns ≡ true → (first (given_at n bad at ∷ vs)).number ≡ k → BrokenAt n bad (first (given_at n bad at ∷ vs)).place
    here {vs = vs} gs o e = by-test (any n bad) found none_found
      where
        found : any n bad ≡ true → BrokenAt n bad (first (given_at n bad at ∷ vs)).place
        found t =
            let l = lowest_of_some n bad t in
            let g = given_here n bad at (lowest n bad) l.0 l.1 (below_lowest n bad) in
            let f = first-refused (given_at n bad at) vs (λ q. z (sym (numbered (lowest n bad)) ∙ number (sym g) ∙ q)) ∙ g in
            let p : lowest n bad ≡ (first (given_at n bad at ∷ vs)).place = sym (placed (lowest n bad)) ∙ ap (λ u. u.place) (sym f) in
            subst (BrokenAt n bad) p (record { below = l.0; broken = l.1 })

        none_found : any n bad ≡ false → BrokenAt n bad (first (given_at n bad at ∷ vs)).place
        none_found f =
            let q = first_passed (given_at n bad at) vs (number (clean_done n bad at (any_false bad n f))) in
            absurd (not_among gs o (number (sym q) ∙ e))

    pub found_at : (i : ℕ) {ns : List ℕ} {vs : List Verdict} → Gives ns vs → get_or vs i DONE ≡ given_at n bad at → others k (take i ns) ≡ true → others k (drop (suc i) ns) ≡ true → (first vs).number ≡ k → (first (take i vs) ≡ DONE) × BrokenAt n bad (first vs).place
    unfolding first
    found_at i none q o p e = absurd (not_among none refl e)
    found_at zero (also {v = v} {vs = vs} g gs) q o p e = (refl, subst (λ u. BrokenAt n bad (first (u ∷ vs)).place) (sym q) (here gs p (number (ap (λ u. first (u ∷ vs)) (sym q)) ∙ e)))
    found_at (suc i) (also {n = m} {v = v} {ns = ns} {vs = vs} g gs) q o p e =
        let a = and_true (not (eqb m k)) (others k (take i ns)) o in
        let s = skipped v vs g (not-true _ a.0) e in
        let f = first_passed v vs s in
        let r = found_at i gs q a.1 p (number (sym f) ∙ e) in
        (first_passed v (take i vs) s ∙ r.0, subst (λ u. BrokenAt n bad u.place) (sym f) r.1)
