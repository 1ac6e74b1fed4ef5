-- The closed forms as the code takes them: of `1 << k` (`shifted_closed`), with no step on the way below zero (`shifted_small`) or large (`product_fits`, `two_fit`, `three_fit`). Assumes nothing.
use Prim.Native.Nat.{ℕ, ◌+◌, ◌*◌, ◌/◌, ◌%◌, ◌^◌, ◌≤◌, ◌<◌}
use mathlib.Core.Path.{◌≡◌, ◌∙◌}
use native.Mathlib.Nat.{le_trans, pow-le-pow_right, one-mul, mul-le-mul, div-le_self}
use native.Mathlib.Omega.{arith}
use lib.Pow.{shl_exact}
use mir.Syntax.{w64}
use mir.Val.{Fits}
use Rattle.halfedges.specs.declared.table.HalfedgeTable.{HalfedgeTable}
use Rattle.halfedges.specs.Cage.{most_halfedges, most_depth}
use Rattle.halfedges.proofs.ClosedForms.{Factors, factors, Closed, closed_forms}

-- `1 << k`, which the machine has as a product cut to 64 bits
abbrev pub shifted : ℕ → ℕ
shifted k = (1 * 2 ^ k) % 18446744073709551616

shifted_whole : (k : ℕ) → k ≤ most_depth → shifted k ≡ 2 ^ k
shifted_whole k d = shl_exact {a = 1} 1 k 64 (omega arith) (omega arith) ∙ one-mul (2 ^ k)

-- the closed forms, of what the code shifts
pub shifted_closed : (t : HalfedgeTable) (k : ℕ) → k ≤ most_depth → Closed t k (shifted k)
shifted_closed t k d = rw (shifted_whole k d) (closed_forms t k)

-- the power and its square, and that no subtraction of the closed forms goes below zero
pub record Small (k p : ℕ) : Type 0 where
  pub positive : 1 ≤ p
  pub few : p ≤ 64
  pub square : p * p ≤ 4096
  pub below_square : p ≤ p * p
  pub below_half : 3 * p ≤ p * p + 2
  pub below_power : k + 2 ≤ 2 * p
  pub below_ninefold : 9 * p ≤ 2 * (p * p) + 3 * k + 7
  pub below_thirds : 3 * p ≤ 2 * (p * p) + 1

pub shifted_small : (k : ℕ) → k ≤ most_depth → Small k (shifted k)
shifted_small k d = rw (shifted_whole k d) (by (2 ^ k) (factors k) (pow-le-pow_right (let z : 0 < 2 = omega arith in z) d))
  where
    by : (p : ℕ) → Factors k p → p ≤ 64 → Small k p
    by p f few =
        record {
          positive = f.positive;
          few = few;
          square = mul-le-mul few few;
          below_square = omega (arith, f.twice);
          below_half = omega (arith, f.sixfold);
          below_power = f.enough;
          below_ninefold = omega (arith, f.ninefold);
          below_thirds = omega (arith, f.thirds);
        }

-- a factor of the closed forms times a count of the cage, a part of that, and two or three of these together stay far below 2^64
pub product : {n m : ℕ} → n ≤ 16384 → m ≤ most_halfedges → n * m ≤ 50331648
product l r = mul-le-mul l r

pub part : {n : ℕ} (d : ℕ) → n ≤ 50331648 → n / d ≤ 50331648
part {n} d l = le_trans (div-le_self n d) l

pub product_fits : {n m : ℕ} → n ≤ 16384 → m ≤ most_halfedges → Fits w64 (n * m)
product_fits {n} {m} l r = let p : n * m ≤ 50331648 = product l r in record { fits = omega arith }

pub two_fit : {n m : ℕ} → n ≤ 50331648 → m ≤ 50331648 → Fits w64 (n + m)
two_fit l r = record { fits = omega arith }

pub three_fit : {n m o : ℕ} → n ≤ 50331648 → m ≤ 50331648 → o ≤ 50331648 → Fits w64 (n + m + o)
three_fit l r q = record { fits = omega arith }
