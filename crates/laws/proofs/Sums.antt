-- Laws of sums below n. Assumes nothing.
--     sum_at_most, sum_same, sum_grows     of small terms, of the same terms, of more terms
--     sum_add, sum_ones, sum_none          term by term
--     sum_swap                             a sum of sums, in the other order
--     sum_split, sum_triples               in two parts, and three terms at a time
--     sum_at_lem                               one term alone
use Prim.Native.Nat.{ℕ, zero, suc, ◌+◌, ◌*◌, ◌≤◌, ◌<◌}
use mathlib.Core.Path.{◌≡◌, refl, sym, ap, ap₂, ◌∙◌}
use mathlib.Core.Bool.{cond}
use native.Mathlib.Decide.{ℕ_discrete, le_ind}
use native.Mathlib.Nat.{suc-mul, le_refl, not-suc-le-zero}
use native.Mathlib.Omega.{arith}
use lib.Dec.{eqb}
use borrow.Author.Tests.{eq-eqb, ne_eqb}
use Rattle.laws.specs.Below.{sum}

-- n terms of at most m
pub sum_at_most : (n m : ℕ) (f : ℕ → ℕ) → ((k : ℕ) → k < n → f k ≤ m) → sum n f ≤ n * m
sum_at_most zero m f h = omega arith
sum_at_most (suc n) m f h = omega (arith, suc-mul n m, sum_at_most n m f (λ k l. h k (omega arith)), h n (omega arith))

-- sums of the same terms
pub sum_same : (n : ℕ) (f g : ℕ → ℕ) → ((k : ℕ) → k < n → f k ≡ g k) → sum n f ≡ sum n g
sum_same zero f g e = refl
sum_same (suc n) f g e = ap₂ ◌+◌ (sum_same n f g (λ k l. e k (omega arith))) (e n (le_refl _))

-- a sum of more terms
pub sum_grows : (f : ℕ → ℕ) (m n : ℕ) → m ≤ n → sum m f ≤ sum n f
sum_grows f m n l = le_ind {n = m} (λ k. sum m f ≤ sum k f) (le_refl _) (λ k _ p. omega arith) n l

pub sum_add : (n : ℕ) (f g : ℕ → ℕ) → sum n (λ k. f k + g k) ≡ sum n f + sum n g
sum_add zero f g = refl
sum_add (suc n) f g = omega (arith, sum_add n f g)

pub sum_ones : (n : ℕ) → sum n (λ k. 1) ≡ n
sum_ones zero = refl
sum_ones (suc n) = omega (arith, sum_ones n)

pub sum_none : (n : ℕ) (f : ℕ → ℕ) → ((k : ℕ) → k < n → f k ≡ 0) → sum n f ≡ 0
sum_none zero f e = refl
sum_none (suc n) f e = omega (arith, sum_none n f (λ k l. e k (omega arith)), e n (omega arith))

pub sum_swap : (n m : ℕ) (f : ℕ → ℕ → ℕ) → sum n (λ i. sum m (λ j. f i j)) ≡ sum m (λ j. sum n (λ i. f i j))
sum_swap zero m f = sym (sum_none m (λ j. 0) (λ j l. refl))
sum_swap (suc n) m f = ap (λ (x : ℕ). x + sum m (λ j. f n j)) (sum_swap n m f) ∙ sym (sum_add m (λ j. sum n (λ i. f i j)) (λ j. f n j))

pub sum_split : (n m : ℕ) (f : ℕ → ℕ) → sum (n + m) f ≡ sum n f + sum m (λ k. f (n + k))
sum_split n zero f = rw (let e : n + 0 ≡ n = omega arith in e) (omega arith)
sum_split n (suc m) f = rw (let e : n + suc m ≡ suc (n + m) = omega arith in e) (omega (arith, sum_split n m f))

pub sum_triples : (n : ℕ) (f : ℕ → ℕ) → sum (3 * n) f ≡ sum n (λ q. f (3 * q) + f (3 * q + 1) + f (3 * q + 2))
sum_triples zero f = refl
sum_triples (suc n) f =
    rw (let e : 3 * suc n ≡ suc (suc (suc (3 * n))) = omega arith in e)
    (omega (arith, sum_triples n f, ap f (let e : suc (3 * n) ≡ 3 * n + 1 = omega arith in e), ap f (let e : suc (suc (3 * n)) ≡ 3 * n + 2 = omega arith in e)))

-- f at one place
pub sum_at_lem : (n a : ℕ) (f : ℕ → ℕ) → a < n → sum n (λ k. cond (eqb k a) (f k) 0) ≡ f a
sum_at_lem zero a f l = absurd (not-suc-le-zero l)
sum_at_lem (suc n) a f l = by (ℕ_discrete n a) (λ b. sum_at_lem n a f b)
  where
    by : Dec (n ≡ a) → (a < n → sum n (λ k. cond (eqb k a) (f k) 0) ≡ f a) → sum (suc n) (λ k. cond (eqb k a) (f k) 0) ≡ f a
    by (yes e) ih =
        rw (eq-eqb n a e)
        (omega (arith, ap f e, sum_none n (λ k. cond (eqb k a) (f k) 0) (λ k b. rw (ne_eqb k a (omega arith)))))
    by (no e) ih = rw (ne_eqb n a e) (omega (arith, ih (omega (arith, e))))
