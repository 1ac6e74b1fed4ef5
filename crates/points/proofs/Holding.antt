-- The level's points are where they were: `Holds`, `holds_own`, `holds_on`; a point's coordinates, and that they can be read: `point_of_is`,
-- `near_of`, `point_same`. Assumes nothing.
use Prim.Native.Nat.{ℕ, ◌+◌, ◌*◌, ◌≤◌, ◌<◌}
use mathlib.Core.Path.{◌≡◌, sym, ◌∙◌, refl}
use mathlib.Core.List.{List}
use native.Mathlib.Omega.{arith}
use lib.IntN.{ℤ, pos, nat_abs}
use lib.ListN.{take}
use lib.Seq.{get_or-take}
use Rattle.points.specs.NextPoints.{coordinate, point_of}
use Rattle.points.specs.Internal.Cells.{value, Near}
use Rattle.points.proofs.Only.{Only, three}
use Rattle.points.specs.Operations.{most_coordinate}

-- the first n vertices' points in l are those of `points`
pub record Holds (n : ℕ) (points l : List ℤ) : Type 0 where
  pub same : (v k : ℕ) → v < n → k < 3 → coordinate l k v ≡ coordinate points k v

-- as those that stand there are
pub holds_own : (n : ℕ) (l : List ℤ) → Holds n (take (3 * n) l) l
holds_own n l = record { same = λ v k lv lk. sym (get_or-take (3 * n) l (3 * v + k) (pos 0) (omega arith)) }

pub holds_on : {n from to : ℕ} {points l m : List ℤ} → 3 * n ≤ from → Holds n points l → Only from to l m → Holds n points m
holds_on past holds only = record { same = λ v k lv lk. only.other (3 * v + k) (λ a b. omega arith) ∙ holds.same v k lv lk }

pub point_of_is : (l : List ℤ) (v k : ℕ) → k < 3 → value (point_of l v) k ≡ coordinate l k v
point_of_is l v = three (λ k. value (point_of l v) k ≡ coordinate l k v) refl refl refl

pub near_of : (l : List ℤ) (v : ℕ) → ((k : ℕ) → k < 3 → nat_abs (coordinate l k v) ≤ most_coordinate) → Near (point_of l v)
near_of l v small k lk = rw (point_of_is l v k lk) (small k lk)

-- of a vertex in two tables with the same points
pub point_same : {n : ℕ} {points l : List ℤ} → Holds n points l → (v : ℕ) → v < n → point_of l v ≡ point_of points v
point_same holds v lv = rw (holds.same v 0 lv (omega arith), holds.same v 1 lv (omega arith), holds.same v 2 lv (omega arith))
