-- Numbers by their digits. Assumes nothing.
--     firsts_narrow            the first items that are alike by them are small numbers in place of the numbers
use Prim.Native.Nat.{ℕ, ◌/◌, ◌%◌, ◌≤◌, ◌<◌}
use mathlib.Core.Path.{◌≡◌, refl, sym, ap, ◌∙◌}
use mathlib.Core.Bool.{true}
use mathlib.Core.List.{List}
use native.Mathlib.Omega.{arith}
use lib.ListN.{length, get_or, take}
use lib.Seq.{get_or-take, length-take-le}
use Rattle.laws.proofs.Tests.{same_eqb}
use Rattle.alike.specs.Internal.Alike.{bound, alike, first_like, Firsts}
use Rattle.alike.specs.Internal.Narrowed.{Halved, Narrowed}
use Rattle.alike.proofs.Firsts.{like_group, like_label, like_both, first_like_lem, first_least}

-- a table goes by the first n numbers of another: two cells are the same exactly where the numbers are
abbrev pub GoesBy : (n : ℕ) (cells numbers : List ℕ) → Type 0
GoesBy n cells numbers =
    (j k : ℕ) → j < n → k < n → (get_or cells j 0 ≡ get_or cells k 0 → get_or numbers j 0 ≡ get_or numbers k 0) × (get_or numbers j 0 ≡ get_or numbers k 0 → get_or cells j 0 ≡ get_or cells k 0)

-- groups that go by what stands before the last digit, and the last digit as label
module _ (numbers upper low groups : List ℕ) (h : Halved numbers (length numbers) upper low) (few : length numbers ≤ bound) (lg : length numbers ≤ length groups) (ll : length numbers ≤ length low) (below : (k : ℕ) → k < length numbers → get_or groups k 0 < bound) (by_upper : GoesBy (length numbers) groups upper) where
  abbrev n : ℕ
  n = length numbers

  abbrev g : List ℕ
  g = take n groups

  abbrev d : List ℕ
  d = take n low

  long : length g ≡ n
  long = length-take-le n groups lg

  group : {k : ℕ} → k < n → get_or g k 0 ≡ get_or groups k 0
  group {k} l = get_or-take n groups k 0 l

  label : {k : ℕ} → k < n → get_or d k 0 ≡ get_or numbers k 0 % bound
  label {k} l = get_or-take n low k 0 l ∙ h.last k l

  -- alike is as good as the same number
  same_number : (j k : ℕ) → j < n → k < n → alike g d k j ≡ true → get_or numbers j 0 ≡ get_or numbers k 0
  same_number j k lj lk e =
      let u = (by_upper j k lj lk).0 (sym (group lj) ∙ like_group g d k j e ∙ group lk) in
      omega (arith, h.before j lj, h.before k lk, u, label lj, label lk, like_label g d k j e)

  alike-number : (j k : ℕ) → j < n → k < n → get_or numbers j 0 ≡ get_or numbers k 0 → alike g d k j ≡ true
  alike-number j k lj lk e =
      like_both g d k j
      (group lj ∙ (by_upper j k lj lk).1 (h.before j lj ∙ ap (λ x. x / bound) e ∙ sym (h.before k lk)) ∙ sym (group lk))
      (label lj ∙ ap (λ x. x % bound) e ∙ sym (label lk))

  like : (k : ℕ) → k < n → alike g d k (first_like g d k) ≡ true
  like k l = first_like_lem g d k (rw long l)

  least : (k j : ℕ) → j < n → alike g d k j ≡ true → first_like g d k ≤ j
  least k j l e = first_least g d k j (rw long l) e

  first_below : (k : ℕ) → k < n → first_like g d k ≤ k
  first_below k l = least k k l (like_both g d k k refl refl)

  -- the first that is like j is the first that is like k, where j's number is k's
  not_above : (j k : ℕ) → j < n → k < n → get_or numbers j 0 ≡ get_or numbers k 0 → first_like g d k ≤ first_like g d j
  not_above j k lj lk e =
      let l : first_like g d j < n = omega (arith, first_below j lj) in
      least k (first_like g d j) l (alike-number (first_like g d j) k l lk (same_number (first_like g d j) j l lj (like j lj) ∙ e))

  pub firsts_narrow : (small : List ℕ) → Firsts g d small → Narrowed numbers small
  firsts_narrow small f =
      record {
        below = λ k l. omega (arith, at k l, first_below k l);
        same = λ j k lj lk. same_eqb (get_or small j 0) (get_or small k 0) (get_or numbers j 0) (get_or numbers k 0) (to j k lj lk) (back j k lj lk);
      }
    where
      at : (k : ℕ) → k < n → get_or small k 0 ≡ first_like g d k
      at k l = f.each k (rw long l)

      to : (j k : ℕ) → j < n → k < n → get_or small j 0 ≡ get_or small k 0 → get_or numbers j 0 ≡ get_or numbers k 0
      to j k lj lk e =
          let l : first_like g d j < n = omega (arith, first_below j lj) in
          let m : first_like g d k < n = omega (arith, first_below k lk) in
          sym (same_number (first_like g d j) j l lj (like j lj))
          ∙ ap (λ i. get_or numbers i 0) (sym (at j lj) ∙ e ∙ at k lk)
          ∙ same_number (first_like g d k) k m lk (like k lk)

      back : (j k : ℕ) → j < n → k < n → get_or numbers j 0 ≡ get_or numbers k 0 → get_or small j 0 ≡ get_or small k 0
      back j k lj lk e = omega (arith, at j lj, at k lk, not_above j k lj lk e, not_above k j lk lj (sym e))
