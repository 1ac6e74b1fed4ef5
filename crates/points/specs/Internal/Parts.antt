-- The point rules by the parts in which the code works them out.
use Rattle.std.specs.Prelude.{ℕ, ◌*◌, ◌^◌, ◌≤◌, ◌<◌, cond, ℤ, pos, nat_abs, ◌+ℤ◌, ◌-ℤ◌, ◌*ℤ◌}
use Rattle.std.specs.Int.Signed.{le_z}
use Rattle.rounding.specs.Rounding.{round}
use Rattle.points.specs.Operations.{most_coordinate}
use Rattle.points.specs.Internal.Relied.{most_corners}

-- what E.2's numerator has from the lower of an edge's halfedges: 3a+3b+c
abbrev pub started : ℤ → ℤ → ℤ → ℤ
started a b c = pos 3 *ℤ a +ℤ pos 3 *ℤ b +ℤ c

-- E.2, from the sum of the lower halfedge and the opposite corner that the higher one adds
abbrev pub finished : ℤ → ℤ → ℤ
finished sum d = round (sum +ℤ d) 8

-- what tells V.2's numerator without one of its neighbours from a place
abbrev pub mark : ℕ
mark = 2 ^ 30

-- a border vertex x meets its neighbours one after the other: the first makes its cell 6x+a, marked, and the second makes that V.2
unfoldable pub met : ℤ → ℤ → ℤ → ℤ
met now x a = cond (le_z now (pos most_coordinate)) (pos 6 *ℤ x +ℤ a +ℤ pos mark) (round (now -ℤ pos mark +ℤ a) 8)

-- what V.3 asks of the number of corners, a place and the sum over the spokes
pub record AsksInside (corners : ℕ) (vertex sum : ℤ) : Type 0 where
  pub some : 0 < corners
  pub few : corners ≤ most_corners
  pub place : nat_abs vertex ≤ most_coordinate
  pub small : nat_abs sum ≤ most_coordinate * corners
