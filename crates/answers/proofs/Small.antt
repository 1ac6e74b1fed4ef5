-- Lists of small numbers (`fitting_at`, `fitting_both`, `fitting_front`, `fitting_rest`, `fitting_tabulate`, `zeros_fit`, `fitting_when`),
-- and checks with a small number and place: one of them (`given_small`, `given_at_small`), the first of several (`first_small`,
-- `guarded_small`, `joined_small`). Assumes nothing.
use Prim.Native.Nat.{ℕ, zero, suc, ◌≤◌, ◌<◌, zero-le, suc-le-suc}
use mathlib.Core.Path.{◌≡◌, refl}
use mathlib.Core.Bool.{Bool, true, false, cond}
use mathlib.Core.List.{List, [], ◌∷◌, ◌++◌}
use native.Mathlib.Decide.{ℕ_discrete}
use native.Mathlib.Omega.{arith}
use lib.Dec.{eqb}
use lib.ListN.{get_or, replicate}
use borrow.Author.Tests.{eqb-true}
use Rattle.laws.specs.Below.{tabulate, any, lowest}
use Rattle.laws.proofs.Tests.{by-test}
use Rattle.laws.proofs.Lowest.{lowest_within}
use Rattle.halfedges.specs.Refusals.{Verdict, DONE, given, given_at, when_done, first}
use Rattle.halfedges.proofs.Checks.{first_refused_before, first_more, first_zero}
use Rattle.answers.specs.Internal.Fitting.{Fitting}

pub fitting_at : (ns : List ℕ) (k : ℕ) → Fitting ns → get_or ns k 0 < 4294967296
fitting_at [] k f = omega arith
fitting_at (n ∷ ns) zero f = f.0
fitting_at (n ∷ ns) (suc k) f = fitting_at ns k f.1

pub fitting_both : (ns ms : List ℕ) → Fitting ns → Fitting ms → Fitting (ns ++ ms)
fitting_both [] ms f g = g
fitting_both (n ∷ ns) ms f g = (f.0, fitting_both ns ms f.1 g)

pub fitting_front : (ns ms : List ℕ) → Fitting (ns ++ ms) → Fitting ns
fitting_front [] ms f = tt
fitting_front (n ∷ ns) ms f = (f.0, fitting_front ns ms f.1)

pub fitting_rest : (ns ms : List ℕ) → Fitting (ns ++ ms) → Fitting ms
fitting_rest [] ms f = f
fitting_rest (n ∷ ns) ms f = fitting_rest ns ms f.1

pub fitting_tabulate : (n : ℕ) (f : ℕ → ℕ) → ((k : ℕ) → k < n → f k < 4294967296) → Fitting (tabulate n f)
fitting_tabulate zero f l = tt
fitting_tabulate (suc n) f l = (l 0 (suc-le-suc zero-le), fitting_tabulate n (λ k. f (suc k)) (λ k m. l (suc k) (suc-le-suc m)))

-- the zeros of a refusal
pub zeros_fit : Fitting (replicate 5 0)
zeros_fit = (omega arith, (omega arith, (omega arith, (omega arith, (omega arith, tt)))))

pub fitting_when : (v : Verdict) (ns ms : List ℕ) → (v.number ≡ 0 → Fitting ns) → Fitting ms → Fitting (when_done v ns ms)
fitting_when v ns ms f g = by-test (eqb v.number 0) (λ e. rw e (f (eqb-true v.number 0 e))) (λ e. rw e g)

-- a verdict whose number and place fit a cell
abbrev pub Small : Verdict → Type 0
Small v = (v.number < 4294967296) × (v.place < 4294967296)

abbrev pub AllSmall : List Verdict → Type 0
AllSmall [] = Unit {0}
AllSmall (v ∷ vs) = Small v × AllSmall vs

pub given_small : (test : Bool) (v : Verdict) → Small v → Small (given test v)
unfolding given
given_small true v s = s
given_small false v s = (omega arith, omega arith)

pub given_at_small : (n : ℕ) (bad : ℕ → Bool) (at : ℕ → Verdict) → ((k : ℕ) → k ≤ n → Small (at k)) → Small (given_at n bad at)
unfolding given_at
given_at_small n bad at s = given_small (any n bad) (at (lowest n bad)) (s (lowest n bad) (lowest_within n bad))

pub first_small : (vs : List Verdict) → AllSmall vs → Small (first vs)
unfolding first
first_small [] s = (omega arith, omega arith)
first_small (v ∷ vs) s = by (eqb v.number 0) (first_small vs s.1)
  where
    by : (b : Bool) → Small (first vs) → Small (cond b (first vs) v)
    by true t = t
    by false t = s.0

-- the checks after one that may rely on it
pub guarded_small : (test : Bool) (v : Verdict) (vs : List Verdict) → eqb v.number 0 ≡ false → Small v → (test ≡ false → Small (first vs)) → Small (first (given test v ∷ vs))
unfolding first given
guarded_small true v vs r s f = rw r s
guarded_small false v vs r s f = f refl

-- the checks after several that they may rely on
pub joined_small : (vs ws : List Verdict) → Small (first vs) → (first vs ≡ DONE → Small (first ws)) → Small (first (vs ++ ws))
joined_small vs ws s f = by (ℕ_discrete (first vs).number 0)
  where
    by : Dec ((first vs).number ≡ 0) → Small (first (vs ++ ws))
    by (yes z) = let d = first_zero vs z in rw (first_more vs ws d) (f d)
    by (no r) = rw (first_refused_before ws vs r) s
