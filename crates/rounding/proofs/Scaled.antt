-- A numerator and its denominator, both scaled by one number, round alike: `round_scaled`. What is scaled: a sum, `scaled_sum`; a negated
-- number, `scaled_neg`; what was scaled before, `scaled_twice`. Assumes nothing.
use Prim.Native.Nat.{ℕ, zero, suc, ◌+◌, ◌*◌, ◌<◌}
use mathlib.Core.Path.{◌≡◌, refl, sym, ap, ◌∙◌}
use native.Mathlib.Nat.{mul-zero, mul_assoc, mul-add, mul-div-mul_left}
use lib.IntN.{ℤ, pos, negsuc, neg_ℤ, neg_ℤ-neg_ℤ, ◌+ℤ◌, ◌*ℤ◌, zero-*ℤ, suc_ℤ-*ℤ}
use Rattle.laws.proofs.Integers.{add_swap}
use Rattle.rounding.specs.Rounding.{nearest, round}
use Rattle.rounding.proofs.Nearest.{doubled, round_odd}

pub scaled_sum : (c : ℕ) (a b : ℤ) → pos c *ℤ (a +ℤ b) ≡ pos c *ℤ a +ℤ pos c *ℤ b
scaled_sum zero a b = rw (zero-*ℤ (a +ℤ b), zero-*ℤ a, zero-*ℤ b)
scaled_sum (suc c) a b =
    suc_ℤ-*ℤ (pos c) (a +ℤ b)
    ∙ ap (λ z. z +ℤ (a +ℤ b)) (scaled_sum c a b)
    ∙ add_swap (pos c *ℤ a) (pos c *ℤ b) a b
    ∙ rw (← suc_ℤ-*ℤ (pos c) a, ← suc_ℤ-*ℤ (pos c) b)

pub scaled_neg : (c : ℕ) (z : ℤ) → pos c *ℤ neg_ℤ z ≡ neg_ℤ (pos c *ℤ z)
scaled_neg c (pos zero) = rw (mul-zero c)
scaled_neg c (pos (suc n)) = refl
scaled_neg c (negsuc n) = sym (neg_ℤ-neg_ℤ (pos (c * suc n)))

pub scaled_twice : (a b : ℕ) (z : ℤ) → pos a *ℤ (pos b *ℤ z) ≡ pos (a * b) *ℤ z
scaled_twice a b (pos n) = ap pos (sym (mul_assoc a b n))
scaled_twice a b (negsuc n) = scaled_neg a (pos (b * suc n)) ∙ ap (λ k. neg_ℤ (pos k)) (sym (mul_assoc a b (suc n)))

-- terms that are c times as large
nearest_scaled : (c : ℕ) → 0 < c → (n d : ℕ) → nearest (c * n) (c * d) ≡ nearest n d
nearest_scaled c some n d =
    rw (← doubled c n, ← doubled c d, ← mul-add c (2 * n) d) (mul-div-mul_left (2 * n + d) (2 * d) some)

pub round_scaled : (c : ℕ) → 0 < c → (n : ℤ) (d : ℕ) → round (pos c *ℤ n) (c * d) ≡ round n d
unfolding round
round_scaled c some (pos n) d = ap pos (nearest_scaled c some n d)
round_scaled c some (negsuc n) d = round_odd (pos (c * suc n)) (c * d) ∙ ap (λ k. neg_ℤ (pos k)) (nearest_scaled c some (suc n) d)
