-- What stores leave in the other cells (`Only`), and in the three cells of a point (`put_hit`, `put_only`, `changed_is`); numbers are stored
-- as they are (`near_stored`, `near_kept`). Assumes nothing.
use Prim.Native.Nat.{ℕ, zero, suc, ◌+◌, ◌≤◌, ◌<◌}
use mathlib.Core.Path.{◌≡◌, refl, sym, ◌∙◌}
use mathlib.Core.List.{List}
use native.Mathlib.Nat.{add-zero}
use native.Mathlib.Omega.{arith}
use lib.IntN.{ℤ, pos, nat_abs}
use lib.ListN.{length, take, set, length-set}
use lib.Seq.{get_or-set_same, get_or-set_other, get_or-take, length-take-le, ext_get_or}
use mir.Syntax.{w32}
use mir.Val.{to_z, of_z}
use mir.Facts.{to_z-of_z}
use Rattle.laws.specs.Internal.Steps.{steps}
use Rattle.laws.proofs.Integers.{small_fits}
use Rattle.laws.proofs.Steps.{steps_keep}
use Rattle.points.specs.Operations.{most_coordinate}
use Rattle.points.specs.Internal.Cells.{value, put, Changed, Near}

-- a law of a point's three coordinates
pub three : (P : ℕ → Type 0) → P 0 → P 1 → P 2 → (k : ℕ) → k < 3 → P k
three P a b c zero l = a
three P a b c (suc zero) l = b
three P a b c (suc (suc zero)) l = c
three P a b c (suc (suc (suc k))) l = absurd (no l)
  where
    no : suc (suc (suc k)) < 3 → ⊥
    no l = omega arith

-- m is l but for the cells from `from` on, up to `to`
pub record Only (from to : ℕ) (l m : List ℤ) : Type 0 where
  pub long : length m ≡ length l
  pub other : (i : ℕ) → (from ≤ i → i < to → ⊥) → value m i ≡ value l i

pub only_none : (from to : ℕ) (l : List ℤ) → Only from to l l
only_none from to l = record { long = refl; other = λ i _. refl }

pub only_on : {from to : ℕ} {l m k : List ℤ} → Only from to l m → Only from to m k → Only from to l k
only_on o p = record { long = p.long ∙ o.long; other = λ i out. p.other i out ∙ o.other i out }

pub only_wider : {f t : ℕ} {l m : List ℤ} (from to : ℕ) → from ≤ f → t ≤ to → Only f t l m → Only from to l m
only_wider from to a b o = record { long = o.long; other = λ i out. o.other i (λ p q. out (omega arith) (omega arith)) }

pub only_set : (l : List ℤ) (i : ℕ) (z : ℤ) → Only i (i + 1) l (set l i z)
only_set l i z = record { long = length-set l i z; other = λ j out. get_or-set_other l i j z (pos 0) (λ e. out (omega arith) (omega arith)) }

pub only_take : {from to : ℕ} {l m : List ℤ} (k : ℕ) → k ≤ from → k ≤ length l → Only from to l m → take k m ≡ take k l
only_take {l = l} {m = m} k a b o =
    let e : length (take k m) ≡ k = length-take-le k m (rw o.long b) in
    ext_get_or (pos 0) (take k m) (take k l) (e ∙ sym (length-take-le k l b))
    (λ i c. get_or-take k m i (pos 0) (rw e at c) ∙ o.other i (λ p q. omega (arith, rw e at c)) ∙ sym (get_or-take k l i (pos 0) (rw e at c)))

-- steps that keep to the same cells
pub only_steps : (from to n : ℕ) (f : ℕ → List ℤ → List ℤ) (l : List ℤ) → ((i : ℕ) → i < n → (m : List ℤ) → length m ≡ length l → Only from to m (f i m)) → (i : ℕ) → i ≤ n → Only from to l (steps i f l)
only_steps from to n f l step =
    steps_keep f l (λ i m. Only from to l m) n (only_none from to l) (λ i b m o. only_on o (step i b m o.long))

module _ (to : ℕ) (g : ℕ → ℤ) (l : List ℤ) where
  pub put_only : Only to (to + 3) l (put to g l)
  unfolding put
  put_only =
      only_on (only_on (only_wider to (to + 3) (omega arith) (omega arith) (only_set l to (g 0))) (only_wider to (to + 3) (omega arith) (omega arith) (only_set (set l to (g 0)) (to + 1) (g 1))))
      (only_wider to (to + 3) (omega arith) (omega arith) (only_set (set (set l to (g 0)) (to + 1) (g 1)) (to + 2) (g 2)))

  pub put_hit : to + 2 < length l → (k : ℕ) → k < 3 → value (put to g l) (to + k) ≡ g k
  unfolding put
  put_hit room = three (λ k. value (put to g l) (to + k) ≡ g k) first second third
    where
      one : List ℤ
      one = set l to (g 0)

      two : List ℤ
      two = set one (to + 1) (g 1)

      first : value (set two (to + 2) (g 2)) (to + 0) ≡ g 0
      first =
          rw (add-zero to)
          (get_or-set_other two (to + 2) to (g 2) (pos 0) (λ e. omega arith)
          ∙ get_or-set_other one (to + 1) to (g 1) (pos 0) (λ e. omega arith)
          ∙ get_or-set_same l to (g 0) (pos 0) (omega arith))

      second : value (set two (to + 2) (g 2)) (to + 1) ≡ g 1
      second = get_or-set_other two (to + 2) (to + 1) (g 2) (pos 0) (λ e. omega arith) ∙ get_or-set_same one (to + 1) (g 1) (pos 0) (rw (length-set l to (g 0)) (omega arith))

      third : value (set two (to + 2) (g 2)) (to + 2) ≡ g 2
      third = get_or-set_same two (to + 2) (g 2) (pos 0) (rw (length-set one (to + 1) (g 1), length-set l to (g 0)) (omega arith))

-- the same numbers, the same cells
pub put_same : (to : ℕ) (f g : ℕ → ℤ) (l : List ℤ) → f 0 ≡ g 0 → f 1 ≡ g 1 → f 2 ≡ g 2 → put to f l ≡ put to g l
unfolding put
put_same to f g l x y z = rw (x, y, z)

-- three numbers that each became what a function has
pub changed_is : {became : ℤ → ℕ → ℤ → Type 0} {to : ℕ} {l m : List ℤ} (g : ℕ → ℤ) → Changed became to l m → ((k : ℕ) → k < 3 → (z : ℤ) → became (value l (to + k)) k z → z ≡ g k) → m ≡ put to g l
changed_is {to = to} {l = l} g c same =
    let at : (k : ℕ) → k < 3 → c.to k ≡ g k = λ k b. same k b (c.to k) (c.each k b) in
    c.others ∙ put_same to c.to g l (at 0 (omega arith)) (at 1 (omega arith)) (at 2 (omega arith))

-- a number as a cell has it
abbrev pub stored : ℤ → ℤ
stored z = to_z w32 (of_z w32 z)

module _ (p : List ℤ) (near : Near p) (k : ℕ) (l : k < 3) where
  pub near_stored : stored (value p k) ≡ value p k
  near_stored = to_z-of_z (small_fits w32 (value p k) (omega (arith, near k l)))

  pub near_kept : nat_abs (stored (value p k)) ≤ most_coordinate
  near_kept = rw near_stored (near k l)
