-- The counts from one level to the next (`counts_more`), and that those of the levels stay small: `level_at_most`, `levels_at_most`. Assumes nothing.
use Prim.Native.Nat.{ℕ, zero, suc, ◌+◌, ◌*◌, ◌^◌, ◌≤◌, ◌<◌}
use mathlib.Core.Path.{◌≡◌}
use native.Mathlib.Numerals.{add-one}
use native.Mathlib.Nat.{pow-suc, pow-le-pow_right, mul-le-mul_right}
use native.Mathlib.Omega.{arith}
use Rattle.halfedges.specs.declared.table.HalfedgeTable.{HalfedgeTable}
use Rattle.halfedges.specs.Internal.Counts.{AtMost}
use Rattle.halfedges.specs.Counts.{finer, counts_at}

pub counts_more : (t : HalfedgeTable) (k : ℕ) → finer (counts_at t k) ≡ counts_at t (k + 1)
unfolding counts_at
counts_more t k = rw add-one

-- a level's counts grow fourfold at most
pub level_at_most : (m : ℕ) (t : HalfedgeTable) → AtMost m t → (k : ℕ) → AtMost (4 ^ k * m) (counts_at t k)
unfolding counts_at
level_at_most m t a zero = record { halfedges = omega arith; edges = omega arith; vertices = omega arith }
level_at_most m t a (suc k) =
    let p = level_at_most m t a k in
    rw (pow-suc 4 k) (record { halfedges = omega arith; edges = omega arith; vertices = omega arith })

-- the levels up to n are at most what level n can be
pub levels_at_most : (m n : ℕ) (t : HalfedgeTable) → AtMost m t → (k : ℕ) → k ≤ n → AtMost (4 ^ n * m) (counts_at t k)
levels_at_most m n t a k l =
    let p = level_at_most m t a k in
    let g : 4 ^ k * m ≤ 4 ^ n * m = mul-le-mul_right m (pow-le-pow_right (let z : 0 < 4 = omega arith in z) l) in
    record { halfedges = omega arith; edges = omega arith; vertices = omega arith }
