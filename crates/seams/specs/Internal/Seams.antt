-- The fifth pass over a level, by the stores that it makes for one halfedge: the new place of vertex v is at 3n + 3v, and the point of
-- edge e at 6n + 3e.
use Rattle.std.specs.Prelude.{ℕ, ◌+◌, ◌*◌, ◌/◌, ◌^◌, ◌≤◌, ◌<◌, ◌≡◌, Bool, cond, List, eqb, ltb, ℤ, length, take}
use Rattle.laws.specs.Below.{any}
use Rattle.halfedges.specs.Cage.{NEXT, most_halfedges, most_depth, marker, cell}
use Rattle.points.specs.Operations.{InRange}
use Rattle.points.specs.Internal.Relied.{Cornered}
use Rattle.points.specs.Internal.Creased.{known_creases}
use Rattle.points.specs.Internal.Cells.{value, put, Near}
use Rattle.edgepoints.specs.declared.edges.Corner.{Corner}
use Rattle.edgepoints.specs.Internal.Edges.{middle, meet, corner_of}

-- the cage's edge e stays sharp to a level: its number, "less one" for each level, is still above 0
abbrev pub stays_sharp : List ℕ → ℕ → ℕ → Bool
stays_sharp creases level e = ltb level (cell creases e)

-- some edge of the cage does
unfoldable pub any_sharp : List ℕ → ℕ → Bool
any_sharp creases level = any (length creases) (stays_sharp creases level)

-- edge e of a level comes of the cage's edge e / 2^level, and is an inner crease where that one stays sharp
unfoldable pub sharp_at : List ℕ → ℕ → ℕ → Bool
sharp_at creases level e = stays_sharp creases level (e / 2 ^ level)

-- vertex a stays put
unfoldable pub stay : ℕ → Corner → List ℤ → List ℤ
stay n a l = put (3 * n + 3 * a.vertex) (value a.point) l

-- vertex a with so many creases, of which one goes to b: with two it meets b, as V.2 asks, "with more than two it stays put, with fewer it
-- is smooth", and so already in its place
unfoldable pub draw_end : ℕ → ℕ → Corner → Corner → List ℤ → List ℤ
draw_end n creases a b l = cond (ltb creases 2) l (cond (eqb creases 2) (meet n a b l) (stay n a l))

-- "An inner crease gets its midpoint": edge e from a to b, and the new place of a
unfoldable pub draw_seam : ℕ → ℕ → ℕ → Corner → Corner → List ℤ → List ℤ
draw_seam n e creases a b l = draw_end n creases a b (put (6 * n + 3 * e) (middle a b) l)

-- what that asks: there is room, and the points are in range
pub record AsksSeam (n e : ℕ) (a b : Corner) (l : List ℤ) : Type 0 where
  pub in_from : a.vertex < n
  pub room : 6 * n + 3 * e + 2 < length l
  pub near : Near a.point
  pub neighbour_near : Near b.point

-- halfedge h where its edge is an inner crease, with the points of a level
unfoldable pub draw_at : List ℕ → List ℕ → List ℕ → ℕ → List ℤ → ℕ → List ℤ → List ℤ
draw_at counts vert edge n points h =
    draw_seam n (cell edge h) (known_creases counts (cell vert h)) (corner_of vert points h) (corner_of vert points (NEXT h))

-- 5: any halfedge h
unfoldable pub seam : List ℕ → ℕ → List ℕ → List ℕ → List ℕ → ℕ → List ℤ → ℕ → List ℤ → List ℤ
seam creases level counts vert edge n points h l =
    cond (sharp_at creases level (cell edge h)) (draw_at counts vert edge n points h l) l

-- a level's tables name vertices in range and edges that there is room for
pub record Seamed (vert edge : List ℕ) (n : ℕ) (l : List ℤ) : Type 0 where
  pub cornered : Cornered vert n
  pub edge_long : length edge ≡ length vert
  pub short : length vert ≤ marker
  pub room : (h : ℕ) → h < length vert → 6 * n + 3 * cell edge h + 2 < length l
  pub in_range : InRange (take (3 * n) l)

-- the cage and the level are within the limits
pub record Limited (creases : List ℕ) (level : ℕ) : Type 0 where
  pub few : length creases ≤ most_halfedges
  pub deep : level ≤ most_depth
