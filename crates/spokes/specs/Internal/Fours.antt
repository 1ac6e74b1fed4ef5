-- The second pass above the cage: by the triangles of the level before, each of which became four.
use Rattle.std.specs.Prelude.{ℕ, ◌+◌, ◌*◌, ◌≤◌, ◌<◌, List, [], ◌∷◌, ℤ, nat_abs, ◌+ℤ◌, length}
use Rattle.halfedges.specs.Cage.{cell}
use Rattle.points.specs.Operations.{most_coordinate}
use Rattle.points.specs.Internal.Relied.{most_corners}
use Rattle.points.specs.NextPoints.{point_of}
use Rattle.points.specs.Internal.Cells.{value, Near}
use Rattle.spokes.specs.declared.fours.Four.{Four}
use Rattle.spokes.specs.Internal.Sums.{Laid, add_to}

-- three points in range
pub record NearThree (p q r : List ℤ) : Type 0 where
  pub first : Near p
  pub second : Near q
  pub third : Near r

-- coordinate k of three points' sum, and the sum
abbrev pub sum_at : List ℤ → List ℤ → List ℤ → ℕ → ℤ
sum_at p q r k = value p k +ℤ value q k +ℤ value r k

abbrev pub sum_of : List ℤ → List ℤ → List ℤ → List ℤ
sum_of p q r = sum_at p q r 0 ∷ sum_at p q r 1 ∷ sum_at p q r 2 ∷ []

-- the sums of n vertices are at most so large, and there is room for them
pub record Within (n most : ℕ) (l : List ℤ) : Type 0 where
  pub room : 6 * n ≤ length l
  pub sums : (x k : ℕ) → x < n → k < 3 → nat_abs (value l (3 * n + 3 * x + k)) ≤ most

-- the spoke of corner x, to the vertex after it at q; and three of the vertex before it: to x at p, to the one after, and to the
-- one across at r
unfoldable pub add_corner : ℕ → ℕ → ℕ → List ℤ → List ℤ → List ℤ → List ℤ → List ℤ
add_corner n x before p q r l = add_to n before (sum_of p q r) (add_to n x q l)

-- they can be added: no sum has more than eight coordinates past the most that a vertex has
pub record AddsCorner (n x before : ℕ) (p q r l : List ℤ) : Type 0 where
  pub in_x : x < n
  pub in_before : before < n
  pub near : NearThree p q r
  pub within : Within n (most_coordinate * most_corners + most_coordinate * 8) l

-- corner x with the vertices after, across and before, at the points that they have in a table
abbrev pub add_corner_of : ℕ → List ℤ → ℕ → ℕ → ℕ → ℕ → List ℤ → List ℤ
add_corner_of n points x after across before l = add_corner n x before (point_of points x) (point_of points after) (point_of points across) l

-- 2, above the cage: the twelve spokes of four triangles
unfoldable pub add_four : ℕ → Four → List ℤ → List ℤ
add_four n f l =
    add_corner_of n l f.w f.c f.a f.b
    (add_corner_of n l f.v f.b f.c f.a (add_corner_of n l f.u f.a f.b f.c l))

-- they are vertices of a level
pub record Inside (n : ℕ) (f : Four) : Type 0 where
  pub in_u : f.u < n
  pub in_v : f.v < n
  pub in_w : f.w < n
  pub in_a : f.a < n
  pub in_b : f.b < n
  pub in_c : f.c < n

-- twelve spokes can be added at once: there is room, and each sum is one of at most 1,024 coordinates
pub record AddsFour (n : ℕ) (f : Four) (l : List ℤ) : Type 0 where
  pub inside : Inside n f
  pub laid : Laid n l
  pub within : Within n (most_coordinate * most_corners) l

-- the four triangles that triangle g of the level before was split into
abbrev pub four_of : List ℕ → ℕ → Four
four_of vert g =
    record {
      u = cell vert (9 * g);
      v = cell vert (9 * g + 3);
      w = cell vert (9 * g + 6);
      a = cell vert (9 * g + 1);
      b = cell vert (9 * g + 4);
      c = cell vert (9 * g + 7);
    }

-- their twelve spokes
unfoldable pub four_spokes : List ℕ → ℕ → ℕ → List ℤ → List ℤ
four_spokes vert n g l = add_four n (four_of vert g) l
