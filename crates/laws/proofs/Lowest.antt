-- The lowest number that passes a test: `lowest-is`, `lowest-none`, `lowest-within`, `lowest-at-most`, `lowest-passes`, `below-lowest`,
-- `lowest-of-some`. Assumes nothing.
use Prim.Native.Nat.{ℕ, zero, suc, ◌≤◌, ◌<◌, zero-le, suc-le-suc}
use mathlib.Core.Path.{◌≡◌, refl, sym, ap, ◌∙◌}
use mathlib.Core.Bool.{Bool, true, false, cond, true≢false}
use native.Mathlib.Nat.{not-suc-le-zero, le_of_suc-le-suc}
use native.Mathlib.Omega.{arith}
use Rattle.laws.specs.Below.{any, lowest}
use Rattle.laws.proofs.Tests.{by-test, any-true}

-- k passes, and none below it
pub lowest-is : (n : ℕ) (p : ℕ → Bool) (k : ℕ) → k < n → p k ≡ true → ((j : ℕ) → j < k → p j ≡ false) → lowest n p ≡ k
lowest-is zero p k l e f = absurd (not-suc-le-zero l)
lowest-is (suc n) p zero l e f = rw e
lowest-is (suc n) p (suc k) l e f =
    rw (f 0 (suc-le-suc zero-le))
    (ap suc (lowest-is n (λ j. p (suc j)) k (le_of_suc-le-suc l) e (λ j m. f (suc j) (suc-le-suc m))))

-- none passes
pub lowest-none : (n : ℕ) (p : ℕ → Bool) → ((j : ℕ) → j < n → p j ≡ false) → lowest n p ≡ n
lowest-none zero p f = refl
lowest-none (suc n) p f = rw (f 0 (suc-le-suc zero-le)) (ap suc (lowest-none n (λ j. p (suc j)) (λ j m. f (suc j) (suc-le-suc m))))

-- it is at most n
pub lowest-within : (n : ℕ) (p : ℕ → Bool) → lowest n p ≤ n
lowest-within zero p = zero-le
lowest-within (suc n) p = by (p 0) (lowest-within n (λ j. p (suc j)))
  where
    by : (b : Bool) → lowest n (λ j. p (suc j)) ≤ n → cond b 0 (suc (lowest n (λ j. p (suc j)))) ≤ suc n
    by true ih = omega arith
    by false ih = omega arith

-- none that passes is lower
pub lowest-at-most : (n : ℕ) (p : ℕ → Bool) (k : ℕ) → k < n → p k ≡ true → lowest n p ≤ k
lowest-at-most zero p k l e = absurd (not-suc-le-zero l)
lowest-at-most (suc n) p zero l e = rw e (omega arith)
lowest-at-most (suc n) p (suc k) l e = by (p 0) (lowest-at-most n (λ j. p (suc j)) k (le_of_suc-le-suc l) e)
  where
    by : (b : Bool) → lowest n (λ j. p (suc j)) ≤ k → cond b 0 (suc (lowest n (λ j. p (suc j)))) ≤ suc k
    by true ih = omega arith
    by false ih = omega arith

-- it passes, where one does
pub lowest-passes : (n : ℕ) (p : ℕ → Bool) (k : ℕ) → k < n → p k ≡ true → p (lowest n p) ≡ true
lowest-passes zero p k l e = absurd (not-suc-le-zero l)
lowest-passes (suc n) p k l e = by (p 0) refl k l e (lowest-passes n (λ j. p (suc j)))
  where
    by : (b : Bool) → p 0 ≡ b → (k : ℕ) → k < suc n → p k ≡ true → ((j : ℕ) → j < n → p (suc j) ≡ true → p (suc (lowest n (λ j. p (suc j)))) ≡ true) → p (cond b 0 (suc (lowest n (λ j. p (suc j))))) ≡ true
    by true z k l e ih = z
    by false z zero l e ih = absurd (true≢false (sym e ∙ z))
    by false z (suc k) l e ih = ih k (le_of_suc-le-suc l) e

-- none below it passes
pub below-lowest : (n : ℕ) (p : ℕ → Bool) (k : ℕ) → k < lowest n p → p k ≡ false
below-lowest n p k l = by-test (p k) (λ t. absurd (omega (arith, lowest-at-most n p k (omega (arith, lowest-within n p)) t))) (λ f. f)

-- it is below n and passes, where one does
pub lowest-of-some : (n : ℕ) (p : ℕ → Bool) → any n p ≡ true → (lowest n p < n) × (p (lowest n p) ≡ true)
lowest-of-some n p e =
    let m = any-true p n e in
    (omega (arith, lowest-at-most n p m.0 m.1 m.2, m.1), lowest-passes n p m.0 m.1 m.2)
