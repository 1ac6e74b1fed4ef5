-- Whole numbers by their sign. Assumes nothing.
--     negative      −1 − z turns the negatives into the naturals
use Prim.Native.Nat.{ℕ, suc}
use mathlib.Core.Path.{◌≡◌, refl, ◌∙◌}
use mathlib.Core.Bool.{true}
use native.Mathlib.Nat.{not-suc-le-zero}
use borrow.Author.Tests.{ltb-true}
use lib.IntN.{ℤ, pos, negsuc, ◌-ℤ◌, +ℤ_comm, -ℤ_one}
use lib.Signed.{lt_z}

flip_negsuc : (n : ℕ) → negsuc 0 -ℤ negsuc n ≡ pos n
flip_negsuc n = +ℤ_comm (negsuc 0) (pos (suc n)) ∙ -ℤ_one (pos (suc n))

pub negative : (z : ℤ) → lt_z z (pos 0) ≡ true → (n : ℕ) × (z ≡ negsuc n) × (negsuc 0 -ℤ z ≡ pos n)
negative (pos n) e = absurd (not-suc-le-zero (ltb-true n 0 e))
negative (negsuc n) e = (n, refl, flip_negsuc n)
