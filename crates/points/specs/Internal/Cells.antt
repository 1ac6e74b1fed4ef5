-- Cells of a lent table of points.
use Rattle.std.specs.Prelude.{ℕ, zero, suc, ◌+◌, ◌≤◌, ◌<◌, ◌≡◌, List, ℤ, pos, nat_abs, get_or, set}
use Rattle.points.specs.Operations.{most_coordinate}

-- what cell i holds
abbrev pub value : List ℤ → ℕ → ℤ
value l i = get_or l i (pos 0)

-- three numbers from cell i on
unfoldable pub put : ℕ → (ℕ → ℤ) → List ℤ → List ℤ
put i g l = set (set (set l i (g 0)) (i + 1) (g 1)) (i + 2) (g 2)

-- the coordinates x, y, z
abbrev pub xyz : ℤ → ℤ → ℤ → ℕ → ℤ
xyz x y z zero = x
xyz x y z (suc zero) = y
xyz x y z (suc (suc k)) = z

-- the three numbers from cell i on became others, each by a relation of what it was, its number and what it became
pub record Changed (became : ℤ → ℕ → ℤ → Type 0) (i : ℕ) (l m : List ℤ) : Type 0 where
  pub to : ℕ → ℤ
  pub each : (k : ℕ) → k < 3 → became (value l (i + k)) k (to k)
  pub others : m ≡ put i to l

-- a point is in range
abbrev pub Near : List ℤ → Type 0
Near p = (k : ℕ) → k < 3 → nat_abs (value p k) ≤ most_coordinate
