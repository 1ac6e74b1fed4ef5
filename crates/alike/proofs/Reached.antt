-- Laws of how far up a test is passed. Assumes nothing.
--     reach_none, reach_here, reach_lower     of no numbers, and of one more
--     reach_at_most                           at most n
--     reach_passes, reach-past                the highest passes, and none past it
use Prim.Native.Nat.{ℕ, zero, suc, ◌≤◌, ◌<◌}
use mathlib.Core.Path.{◌≡◌, refl, sym, ap, ◌∙◌}
use mathlib.Core.Bool.{Bool, true, false, cond, true≢false}
use native.Mathlib.Decide.{ℕ_discrete}
use native.Mathlib.Nat.{not-suc-le-zero}
use native.Mathlib.Omega.{arith}
use Rattle.laws.proofs.Tests.{by-test}
use Rattle.alike.specs.Internal.Reach.{reach}

pub reach_none : (p : ℕ → Bool) → reach 0 p ≡ 0
unfolding reach
reach_none p = refl

module _ (n : ℕ) (p : ℕ → Bool) where
  reach_more : reach (suc n) p ≡ cond (p n) (suc n) (reach n p)
  unfolding reach
  reach_more = refl

  pub reach_here : p n ≡ true → reach (suc n) p ≡ suc n
  reach_here e = rw (reach_more, e)

  pub reach_lower : p n ≡ false → reach (suc n) p ≡ reach n p
  reach_lower e = rw (reach_more, e)

pub reach_at_most : (n : ℕ) (p : ℕ → Bool) → reach n p ≤ n
reach_at_most zero p = omega (arith, reach_none p)
reach_at_most (suc n) p = by-test (p n) (λ e. omega (arith, reach_here n p e)) (λ e. omega (arith, reach_lower n p e, reach_at_most n p))

pub reach_passes : (n : ℕ) (p : ℕ → Bool) (k : ℕ) → reach n p ≡ suc k → p k ≡ true
reach_passes zero p k e = absurd (omega (arith, reach_none p))
reach_passes (suc n) p k e =
    by-test (p n)
    (λ t. let q : n ≡ k = omega (arith, reach_here n p t) in ap p (sym q) ∙ t)
    (λ f. reach_passes n p k (sym (reach_lower n p f) ∙ e))

-- each that passes is below
pub reach-past : (n : ℕ) (p : ℕ → Bool) (k : ℕ) → k < n → p k ≡ true → k < reach n p
reach-past zero p k l e = absurd (not-suc-le-zero l)
reach-past (suc n) p k l e = by-test (p n) (λ t. omega (arith, reach_here n p t)) (λ f. by (ℕ_discrete k n) f (λ b. reach-past n p k b e))
  where
    by : Dec (k ≡ n) → p n ≡ false → (k < n → k < reach n p) → k < reach (suc n) p
    by (yes q) f ih = absurd (true≢false (sym e ∙ ap p q ∙ f))
    by (no q) f ih = omega (arith, reach_lower n p f, ih (omega (arith, q)))
