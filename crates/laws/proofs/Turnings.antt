-- Turnings: two functions that turn the numbers below n, each back what the other turned (`Turning`, `turned_back`). A sum along a
-- turning is the sum (`sum-turned`). Assumes nothing.
use Prim.Native.Nat.{ℕ, ◌<◌}
use mathlib.Core.Path.{◌≡◌, sym, ap, ◌∙◌}
use mathlib.Core.Bool.{cond}
use lib.Dec.{eqb}
use Rattle.laws.specs.Below.{sum}
use Rattle.laws.proofs.Tests.{same_eqb}
use Rattle.laws.proofs.Sums.{sum_same, sum_swap, sum_at_lem}

-- s and r turn the numbers below n, each back what the other turned
pub record Turning (n : ℕ) (s r : ℕ → ℕ) : Type 0 where
  pub below : (k : ℕ) → k < n → s k < n
  pub back_below : (k : ℕ) → k < n → r k < n
  pub back : (k : ℕ) → k < n → r (s k) ≡ k
  pub forth : (k : ℕ) → k < n → s (r k) ≡ k

pub turned_back : {n : ℕ} {s r : ℕ → ℕ} → Turning n s r → Turning n r s
turned_back t = record { below = t.back_below; back_below = t.below; back = t.forth; forth = t.back }

pub sum-turned : (n : ℕ) (s r f : ℕ → ℕ) → Turning n s r → sum n (λ k. f (s k)) ≡ sum n f
sum-turned n s r f t =
    sum_same n (λ i. f (s i)) (λ i. sum n (λ k. cond (eqb k (s i)) (f k) 0)) (λ i l. sym (sum_at_lem n (s i) f (t.below i l)))
    ∙ sum_swap n n (λ i k. cond (eqb k (s i)) (f k) 0)
    ∙ sum_same n (λ k. sum n (λ i. cond (eqb k (s i)) (f k) 0)) f
    (λ k lk.
    sum_same n (λ i. cond (eqb k (s i)) (f k) 0) (λ i. cond (eqb i (r k)) (f k) 0)
    (λ i li. rw (same_eqb k (s i) i (r k) (λ e. sym (t.back i li) ∙ ap r (sym e)) (λ e. sym (t.forth k lk) ∙ ap s (sym e))))
    ∙ sum_at_lem n (r k) (λ i. f k) (t.back_below k lk))
