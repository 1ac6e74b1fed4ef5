-- Laws of sums of whole numbers. Assumes nothing.
--     total-append, take_out              of a list: in two parts, and one of them first
--     scan, scan_more, scan_at_most       of f over the numbers below n that pass a test
--     sum_below, sum_below_split            of f below n; scan_below, of what passes a test
--     added, added-total                  one after the other
--     bracket, cond_three                 three at once
use Prim.Native.Nat.{ℕ, zero, suc, ◌+◌, ◌*◌, ◌≤◌}
use mathlib.Core.Path.{◌≡◌, refl, sym, ap, ◌∙◌}
use mathlib.Core.Bool.{Bool, true, false, cond}
use mathlib.Core.List.{List, [], ◌∷◌, ◌++◌, map, map-append}
use native.Mathlib.Nat.{add-zero, mul-add, mul-one, add-suc}
use native.Mathlib.Omega.{arith}
use lib.IntN.{ℤ, pos, nat_abs, ◌+ℤ◌, +ℤ_idl, +ℤ_idr, +ℤ_assoc, +ℤ_comm}
use Rattle.laws.specs.Below.{count, select}
use Rattle.laws.proofs.Integers.{nat_abs_add}
use Rattle.laws.specs.Totals.{total}

pub total-append : (xs ys : List ℤ) → total (xs ++ ys) ≡ total xs +ℤ total ys
total-append [] ys = sym (+ℤ_idl _)
total-append (x ∷ xs) ys = ap (λ z. x +ℤ z) (total-append xs ys) ∙ sym (+ℤ_assoc x (total xs) (total ys))

-- the sum of f over the numbers below n that pass p
abbrev pub scan : (ℕ → ℤ) → (ℕ → Bool) → ℕ → ℤ
scan f p n = total (map f (select n p))

module _ (f : ℕ → ℤ) (p : ℕ → Bool) where
  pub scan_more : (n : ℕ) → scan f p (suc n) ≡ scan f p n +ℤ cond (p n) (f n) (pos 0)
  scan_more n =
      ap total (map-append f (select n p) (cond (p n) (n ∷ []) []))
      ∙ total-append (map f (select n p)) (map f (cond (p n) (n ∷ []) []))
      ∙ ap (λ z. scan f p n +ℤ z) (by (p n))
    where
      by : (b : Bool) → total (map f (cond b (n ∷ []) [])) ≡ cond b (f n) (pos 0)
      by true = +ℤ_idr (f n)
      by false = refl

  -- of numbers of at most m
  pub scan_at_most : (m : ℕ) → ((h : ℕ) → nat_abs (f h) ≤ m) → (n : ℕ) → nat_abs (scan f p n) ≤ m * count n p
  scan_at_most m small zero = omega arith
  scan_at_most m small (suc n) = rw (scan_more n) (by (p n) (scan_at_most m small n))
    where
      by : (b : Bool) → nat_abs (scan f p n) ≤ m * count n p → nat_abs (scan f p n +ℤ cond b (f n) (pos 0)) ≤ m * (count n p + cond b 1 0)
      by true ih = rw (mul-add m (count n p) 1) (omega (arith, ih, mul-one m, small n, nat_abs_add (scan f p n) (f n)))
      by false ih = rw (+ℤ_idr, add-zero) ih

-- the sum of f below n
abbrev pub sum_below : ℕ → (ℕ → ℤ) → ℤ
sum_below zero f = pos 0
sum_below (suc n) f = sum_below n f +ℤ f n

pub sum_below_split : (m n : ℕ) (f : ℕ → ℤ) → sum_below (m + n) f ≡ sum_below m f +ℤ sum_below n (λ j. f (m + j))
sum_below_split m zero f = ap (λ k. sum_below k f) (add-zero m) ∙ sym (+ℤ_idr _)
sum_below_split m (suc n) f = ap (λ k. sum_below k f) (add-suc m n) ∙ ap (λ z. z +ℤ f (m + n)) (sum_below_split m n f) ∙ +ℤ_assoc (sum_below m f) (sum_below n (λ j. f (m + j))) (f (m + n))

-- numbers added one after the other
abbrev pub added : ℤ → List ℤ → ℤ
added z [] = z
added z (x ∷ xs) = added (z +ℤ x) xs

pub added-total : (z : ℤ) (xs : List ℤ) → added z xs ≡ z +ℤ total xs
added-total z [] = sym (+ℤ_idr z)
added-total z (x ∷ xs) = added-total (z +ℤ x) xs ∙ +ℤ_assoc z x (total xs)

-- one of them first
pick : (xs : List ℤ) (y : ℤ) (ys : List ℤ) → total (xs ++ (y ∷ ys)) ≡ y +ℤ total (xs ++ ys)
pick [] y ys = refl
pick (x ∷ xs) y ys =
    ap (λ z. x +ℤ z) (pick xs y ys) ∙ sym (+ℤ_assoc x y (total (xs ++ ys))) ∙ ap (λ z. z +ℤ total (xs ++ ys)) (+ℤ_comm x y) ∙ +ℤ_assoc y x (total (xs ++ ys))

pub take_out : (xs : List ℤ) (y : ℤ) (ys zs : List ℤ) → total zs ≡ total (xs ++ ys) → total (y ∷ zs) ≡ total (xs ++ (y ∷ ys))
take_out xs y ys zs e = ap (λ z. y +ℤ z) e ∙ sym (pick xs y ys)

-- three of them in brackets, three times over
pub bracket : (z p q r : ℤ) → z +ℤ (p +ℤ q +ℤ r) ≡ z +ℤ p +ℤ q +ℤ r
bracket z p q r = sym (+ℤ_assoc z (p +ℤ q) r) ∙ ap (λ y. y +ℤ r) (sym (+ℤ_assoc z p q))

pub cond_three : (b : Bool) (p q r : ℤ) → cond b (p +ℤ q +ℤ r) (pos 0) ≡ cond b p (pos 0) +ℤ cond b q (pos 0) +ℤ cond b r (pos 0)
cond_three true p q r = refl
cond_three false p q r = refl

-- a sum over what passes a test, number by number
pub scan_below : (f : ℕ → ℤ) (p : ℕ → Bool) (n : ℕ) → scan f p n ≡ sum_below n (λ h. cond (p h) (f h) (pos 0))
scan_below f p zero = refl
scan_below f p (suc n) = scan_more f p n ∙ ap (λ z. z +ℤ cond (p n) (f n) (pos 0)) (scan_below f p n)
