-- The second pass: the sums over every vertex's spokes. On the cage it goes by the halfedges.
use Rattle.std.specs.Prelude.{ℕ, ◌/◌, ◌<◌, cond, List, eqb, ℤ, length}
use Rattle.laws.specs.Internal.Steps.{steps}
use Rattle.halfedges.specs.Cage.{cell}
use Rattle.points.specs.NextPoints.{point_of, far}
use Rattle.spokes.specs.Internal.Sums.{add_to, AddsTo}
use Rattle.spokes.specs.Internal.Fours.{four_spokes}

-- the point of vertex b is added to the sums of vertex a
unfoldable pub add_point : ℕ → ℕ → ℕ → List ℤ → List ℤ
add_point n a b l = add_to n a (point_of l b) l

-- the point of b can be added to the sums of a
pub record Adds (n a b : ℕ) (l : List ℤ) : Type 0 where
  pub in_b : b < n
  pub to : AddsTo n a (point_of l b) l

-- a triangle's three spokes, from each corner to the next
unfoldable pub add_triangle : ℕ → List ℕ → List ℤ → List ℤ
add_triangle n corners l =
    add_point n (cell corners 2) (cell corners 0)
    (add_point n (cell corners 1) (cell corners 2) (add_point n (cell corners 0) (cell corners 1) l))

-- they can be added, each to what the one before left
pub record AddsTriangle (n : ℕ) (corners : List ℕ) (l : List ℤ) : Type 0 where
  pub first : Adds n (cell corners 0) (cell corners 1) l
  pub second : Adds n (cell corners 1) (cell corners 2) (add_point n (cell corners 0) (cell corners 1) l)
  pub third :
      Adds n (cell corners 2) (cell corners 0)
      (add_point n (cell corners 1) (cell corners 2) (add_point n (cell corners 0) (cell corners 1) l))

-- 2: the spoke of halfedge h
unfoldable pub spoke : List ℕ → ℕ → ℕ → List ℤ → List ℤ
spoke vert n h l = add_point n (cell vert h) (far vert h) l

-- all spokes of a level, where the one before had so many halfedges; none came before the cage
unfoldable pub gathered : List ℕ → ℕ → ℕ → List ℤ → List ℤ
gathered vert n before l = cond (eqb before 0) (steps (length vert) (spoke vert n) l) (steps (before / 3) (four_spokes vert n) l)
