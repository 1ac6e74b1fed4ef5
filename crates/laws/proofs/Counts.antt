-- Laws of counts below n. Assumes nothing.
--     count_at_most     at most n
--     count_one         just one number is h
--     count_split       where each that passes one test passes just one of two others
--     any-count         one passes where the count is not 0
use Prim.Native.Nat.{ℕ, zero, suc, ◌+◌, ◌≤◌, ◌<◌}
use mathlib.Core.Path.{◌≡◌, refl}
use mathlib.Core.Bool.{Bool, cond, not}
use native.Mathlib.Nat.{le_refl}
use native.Mathlib.Omega.{arith}
use lib.Dec.{eqb}
use borrow.Author.Tests.{ne_eqb}
use Rattle.laws.specs.Below.{count, any}
use Rattle.laws.proofs.Tests.{by-test, or_true, or_false_right}
use Rattle.laws.proofs.Sums.{sum_at_lem}

pub count_at_most : (n : ℕ) (p : ℕ → Bool) → count n p ≤ n
count_at_most zero p = omega arith
count_at_most (suc n) p = by-test (p n) (λ e. rw e (omega (arith, count_at_most n p))) (λ e. rw e (omega (arith, count_at_most n p)))

pub count_one : (n h : ℕ) → h < n → count n (λ k. eqb k h) ≡ 1
count_one n h l = sum_at_lem n h (λ k. 1) l

pub count_split : (n : ℕ) (p q r : ℕ → Bool) → ((k : ℕ) → k < n → cond (p k) 1 0 ≡ cond (q k) 1 0 + cond (r k) 1 0) → count n p ≡ count n q + count n r
count_split zero p q r e = refl
count_split (suc n) p q r e = omega (arith, count_split n p q r (λ k l. e k (omega arith)), e n (le_refl _))

pub any-count : (n : ℕ) (p : ℕ → Bool) → any n p ≡ not (eqb (count n p) 0)
any-count zero p = refl
any-count (suc n) p =
    by-test (p n)
    (λ e. let z : count n p + 1 ≡ 0 → ⊥ = λ q. omega arith in rw (e, or_true (any n p), ne_eqb (count n p + 1) 0 z))
    (λ e. let z : count n p + 0 ≡ count n p = omega arith in rw (e, or_false_right (any n p), z) (any-count n p))
