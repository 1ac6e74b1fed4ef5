-- A number of 64 bits has at most twenty digits (`few_digits`), and the fewest that hold it, in the library's words (`IsDigitCount`), are as many
-- as the listing has (`fewest_is`). Assumes nothing.
use Prim.Native.Nat.{ℕ, zero, suc, ◌-◌, ◌^◌, ◌≤◌, ◌<◌}
use mathlib.Core.Path.{◌≡◌, ap, sym}
use native.Mathlib.Decide.{dec_lt}
use native.Mathlib.Nat.{le_trans, pow-le-pow_right}
use native.Mathlib.Omega.{arith}
use borrow.Author.Tests.{lt-ltb, le-ltb}
use Rattle.io.specs.Digits.{IsDigitCount}
use Rattle.laws.proofs.Lowest.{lowest_is}
use Rattle.text.specs.Lines.{fewest}

module _ (n : ℕ) (small : n < 2 ^ 64) where
  pub few_digits : (k : ℕ) → IsDigitCount 10 1 n k → k ≤ 20
  few_digits k f = by (dec_lt 20 k)
    where
      by : Dec (20 < k) → k ≤ 20
      by (yes h) = absurd (omega (arith, le_trans (pow-le-pow_right {n = 10} (omega arith) {i = 20} {j = k - 1} (omega arith)) (f.2 (omega arith))))
      by (no h) = omega (arith, h)

  pub fewest_is : (k : ℕ) → IsDigitCount 10 1 n k → k ≡ fewest n
  unfolding fewest
  fewest_is zero f = absurd (omega (arith, f.0))
  fewest_is (suc j) f =
      let e : suc j - 1 ≡ j = omega arith in
      let least : 1 < suc j → 10 ^ j ≤ n = rw e at f.2 in
      ap suc (sym (lowest_is 20 _ j (few_digits (suc j) f) (lt-ltb n _ f.1) (λ i h. le-ltb n _ (le_trans (pow-le-pow_right {n = 10} (omega arith) h) (least (omega arith))))))
