-- The spokes' shares. Assumes nothing.
--     entries_below                  "Across the table, n·w is below 2^24", by one computed test over it
--     shares_within                  so by either weight n spokes have no more than the whole
--     whole_some, -small, -even      which is some, no large number, and even
--     below, past, listed            the entry of a valence, by where it lies
use Prim.Native.Nat.{ℕ, zero, suc, ◌-◌, ◌*◌, ◌%◌, ◌^◌, ◌≤◌, ◌<◌}
use mathlib.Core.Path.{◌≡◌, refl}
use mathlib.Core.Bool.{false}
use native.Mathlib.Decide.{dec_le}
use native.Mathlib.Nat.{mul-zero}
use native.Mathlib.Omega.{arith}
use lib.Dec.{leb}
use lib.ListN.{get_or, get_or-eq_default}
use borrow.Author.Tests.{leb-false}
use Rattle.laws.specs.Below.{any}
use Rattle.laws.proofs.Tests.{any_false}
use Rattle.points.specs.declared.weights.Weight.{Weight}
use Rattle.points.specs.declared.weights.Weight.TheVariants.{Short, Paper}
use Rattle.points.specs.Weights.{entries, entry, most_valence, share}
use Rattle.points.specs.Internal.Relied.{most_corners}

-- the test over the table
tested : any 33 (λ n. leb (2 ^ 24) (n * entry n)) ≡ false
tested = refl

-- no entry below 2 and above 32, and else that of the table
pub below : (n : ℕ) → n < 2 → entry n ≡ 0
below zero l = refl
below (suc zero) l = refl
below (suc (suc n)) l = absurd (omega arith)

pub past : (n : ℕ) → most_valence < n → entry n ≡ 0
past zero l = refl
past (suc zero) l = refl
past (suc (suc n)) l = get_or-eq_default entries 0 {n = n} (omega arith)

pub listed : (n : ℕ) → 2 ≤ n → get_or entries (n - 2) 0 ≡ entry n
listed zero l = absurd (omega arith)
listed (suc zero) l = absurd (omega arith)
listed (suc (suc n)) l = let e : suc (suc n) - 2 ≡ n = omega arith in rw e

pub entries_below : (n : ℕ) → n * entry n < 2 ^ 24
entries_below n = by (dec_le n most_valence)
  where
    by : Dec (n ≤ most_valence) → n * entry n < 2 ^ 24
    by (yes l) = leb-false (2 ^ 24) (n * entry n) (any_false (λ k. leb (2 ^ 24) (k * entry k)) 33 tested n (omega arith))
    by (no l) = rw (past n (omega (arith, l)), mul-zero n) (omega arith)

pub shares_within : (w : Weight) (n : ℕ) → n * (share w n).part ≤ (share w n).whole
shares_within Short n = omega arith
shares_within Paper n = omega (arith, entries_below n)

pub whole_some : (w : Weight) (n : ℕ) → 0 < n → 0 < (share w n).whole
whole_some Short n some = omega arith
whole_some Paper n some = omega arith

pub whole_small : (w : Weight) (n : ℕ) → n ≤ most_corners → (share w n).whole ≤ 2 ^ 24
whole_small Short n few = omega arith
whole_small Paper n few = omega arith

pub whole_even : (w : Weight) (n : ℕ) → (share w n).whole % 2 ≡ 0
whole_even Short n = omega arith
whole_even Paper n = refl
