-- A vertex with two creases, as one on a border, meets its neighbours along them one at a time: what its cell holds after none, one and
-- two (`stage`), and that one more takes it to the next stage (`meets`). Assumes nothing.
use Prim.Native.Nat.{ℕ, zero, suc, ◌+◌, ◌-◌, ◌*◌, ◌≤◌}
use mathlib.Core.Path.{◌≡◌, refl, sym, ap, ◌∙◌}
use mathlib.Core.Bool.{Bool, true, false, cond}
use native.Mathlib.Nat.{add-zero}
use native.Mathlib.Numerals.{add-one}
use native.Mathlib.Omega.{arith}
use lib.IntN.{ℤ, pos, negsuc, nat_abs, ◌+ℤ◌, ◌*ℤ◌, +ℤ_idl, +ℤ_idr, +ℤ_assoc, +ℤ-neg_ℤ_cancel}
use lib.Signed.{le_z}
use borrow.Author.Tests.{le-leb, lt-leb}
use Rattle.laws.proofs.Integers.{nat_abs_add, nat_abs_mul, zero_of_nat_abs}
use Rattle.rounding.specs.Rounding.{round}
use Rattle.rounding.proofs.Floor.{raised, raised_is}
use Rattle.points.specs.PointRules.{V2}
use Rattle.points.specs.Operations.{most_coordinate}
use Rattle.points.specs.Internal.Parts.{mark, met}

-- a small number is no marked one
small_at_most : (z : ℤ) (m : ℕ) → nat_abs z ≤ m → le_z z (pos m) ≡ true
small_at_most (pos a) m l = le-leb a m l
small_at_most (negsuc a) m l = refl

raised_least : (z : ℤ) (m : ℕ) → m - nat_abs z ≤ raised z m
raised_least (pos a) m = omega arith
raised_least (negsuc a) m = omega arith

marked_more : (z : ℤ) → nat_abs z ≤ most_coordinate * 7 → le_z (z +ℤ pos mark) (pos most_coordinate) ≡ false
marked_more z l = rw (raised_is z mark (omega arith)) (lt-leb (raised z mark) most_coordinate (omega (arith, raised_least z mark)))

-- the place z of a vertex at x, after so many neighbours with sum s
abbrev pub stage : ℕ → ℤ → ℤ → ℤ → ℤ
stage zero z x s = z
stage (suc zero) z x s = pos 6 *ℤ x +ℤ s +ℤ pos mark
stage (suc (suc m)) z x s = V2 x s

module _ (z x : ℤ) (place : nat_abs z ≤ most_coordinate) (vertex : nat_abs x ≤ most_coordinate) where
  one_more : (m : ℕ) (s a : ℤ) → m ≤ 1 → nat_abs s ≤ most_coordinate * m → met (stage m z x s) x a ≡ stage (suc m) z x (s +ℤ a)
  unfolding met V2
  one_more zero s a l small =
      rw (small_at_most z most_coordinate place, zero_of_nat_abs s (omega arith)) (ap (λ y. pos 6 *ℤ x +ℤ y +ℤ pos mark) (sym (+ℤ_idl a)))
  one_more (suc zero) s a l small =
      let y = pos 6 *ℤ x +ℤ s in
      rw (marked_more (pos 6 *ℤ x +ℤ s) (omega (arith, nat_abs_mul (pos 6) x, nat_abs_add (pos 6 *ℤ x) s)))
      (ap (λ w. round (w +ℤ a) 8) (+ℤ-neg_ℤ_cancel y (pos mark)) ∙ ap (λ w. round w 8) (+ℤ_assoc (pos 6 *ℤ x) s a))
  one_more (suc (suc m)) s a l small = absurd (no l)
    where
      no : suc (suc m) ≤ 1 → ⊥
      no l = omega arith

  -- one more where a test passes
  pub meets : (m : ℕ) (s a : ℤ) (b : Bool) → m + cond b 1 0 ≤ 2 → nat_abs s ≤ most_coordinate * m → cond b (met (stage m z x s) x a) (stage m z x s) ≡ stage (m + cond b 1 0) z x (s +ℤ cond b a (pos 0))
  meets m s a true l small = one_more m s a (omega arith) small ∙ ap (λ k. stage k z x (s +ℤ a)) (sym (add-one m))
  meets m s a false l small = rw (add-zero m, +ℤ_idr s)
