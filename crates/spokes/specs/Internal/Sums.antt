-- The sums over the spokes of a level, each pass by the stores that it makes at one step. The part of the points that is lent starts
-- with the level's own points, 3n cells for n vertices. The next level's follow: the new place of vertex v is at 3n + 3v, where its sums
-- are kept till then.
use Rattle.std.specs.Prelude.{ℕ, ◌+◌, ◌*◌, ◌^◌, ◌≤◌, ◌<◌, ◌≡◌, List, ℤ, pos, nat_abs, ◌+ℤ◌, length, take, set}
use Rattle.points.specs.Operations.{InRange}
use Rattle.points.specs.Internal.Relied.{Cornered}
use Rattle.points.specs.Internal.Cells.{value, put}

-- the level's points are in range, and the sums have room after them
pub record Laid (n : ℕ) (l : List ℤ) : Type 0 where
  pub room : 6 * n ≤ length l
  pub in_range : InRange (take (3 * n) l)

-- 1: a cell of the sums is made 0
unfoldable pub clear_cell : ℕ → ℕ → List ℤ → List ℤ
clear_cell n i l = set l (3 * n + i) (pos 0)

-- every cell of the sums is 0
abbrev pub Cleared : ℕ → List ℤ → Type 0
Cleared n l = (i : ℕ) → i < 3 * n → value l (3 * n + i) ≡ pos 0

-- what gathering a level's spokes takes
pub record Gathers (vert : List ℕ) (n : ℕ) (l : List ℤ) : Type 0 where
  pub cornered : Cornered vert n
  pub laid : Laid n l
  pub cleared : Cleared n l

-- a point is added to the sums of vertex v
unfoldable pub add_to : ℕ → ℕ → List ℤ → List ℤ → List ℤ
add_to n v p l = put (3 * n + 3 * v) (λ k. value l (3 * n + 3 * v + k) +ℤ value p k) l

-- a point can be added to the sums of vertex v: there is room, and no sum wraps
pub record AddsTo (n v : ℕ) (p l : List ℤ) : Type 0 where
  pub below : v < n
  pub room : 6 * n ≤ length l
  pub fits : (k : ℕ) → k < 3 → nat_abs (value l (3 * n + 3 * v + k)) + nat_abs (value p k) < 2 ^ 31
