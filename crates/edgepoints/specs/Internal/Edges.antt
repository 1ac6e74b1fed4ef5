-- The fourth pass over a level, by the stores that it makes at one step: the new place of vertex v is at 3n + 3v, and the point of edge e
-- at 6n + 3e.
use Rattle.std.specs.Prelude.{ℕ, ◌+◌, ◌*◌, ◌≤◌, ◌<◌, ◌≡◌, Bool, cond, ◌||◌, List, eqb, ltb, ℤ, nat_abs, length, take}
use Rattle.edgepoints.specs.declared.edges.Corner.{Corner}
use Rattle.edgepoints.specs.declared.edges.Halfedge.{Halfedge}
use Rattle.edgepoints.specs.declared.edges.Triangle.{Triangle}
use Rattle.halfedges.specs.Cage.{NEXT, PREV, marker, cell}
use Rattle.points.specs.PointRules.{E1}
use Rattle.points.specs.Operations.{most_coordinate, InRange}
use Rattle.points.specs.Internal.Relied.{Cornered}
use Rattle.points.specs.NextPoints.{point_of}
use Rattle.points.specs.Internal.Cells.{value, put, Near}
use Rattle.points.specs.Internal.Parts.{started, finished, met}

-- a halfedge's ends and its opposite corner are in range
pub record Spanned (h : Halfedge) : Type 0 where
  pub from_near : Near h.from.point
  pub to_near : Near h.to.point
  pub opposite_near : Near h.opposite.point

-- coordinate k of the middle between a and its neighbour b (E.1)
abbrev pub middle : Corner → Corner → ℕ → ℤ
middle a b k = E1 (value a.point k) (value b.point k)

-- coordinate k of what the lower halfedge of an inner edge leaves, and of what the higher one makes of that, from cell i on (E.2)
abbrev pub start : Halfedge → ℕ → ℤ
start h k = started (value h.from.point k) (value h.to.point k) (value h.opposite.point k)

abbrev pub finish : Halfedge → List ℤ → ℕ → ℕ → ℤ
finish h l i k = finished (value l (i + k)) (value h.opposite.point k)

-- the lower halfedge of an inner edge has been there
abbrev pub Begun : List ℤ → ℕ → Type 0
Begun l i = (k : ℕ) → k < 3 → nat_abs (value l (i + k)) ≤ most_coordinate * 7

-- what `finish` asks
pub record AsksFinish (h : Halfedge) (i : ℕ) (l : List ℤ) : Type 0 where
  pub room : i + 2 < length l
  pub near : Near h.opposite.point
  pub begun : Begun l i

-- coordinate k of the new place, from cell i on, of a vertex a with two creases that meets its neighbour b along one (V.2)
abbrev pub meeting : Corner → Corner → List ℤ → ℕ → ℕ → ℤ
meeting a b l i k = met (value l (i + k)) (value a.point k) (value b.point k)

-- what `meeting` asks, and a middle that is stored from cell i on
pub record AsksMeet (a b : Corner) (i : ℕ) (l : List ℤ) : Type 0 where
  pub room : i + 2 < length l
  pub near : Near a.point
  pub neighbour_near : Near b.point

-- vertex a meets its neighbour b
unfoldable pub meet : ℕ → Corner → Corner → List ℤ → List ℤ
meet n a b l = put (3 * n + 3 * a.vertex) (meeting a b l (3 * n + 3 * a.vertex)) l

-- where the point of a halfedge's edge is
abbrev pub place : ℕ → Halfedge → ℕ
place n h = 6 * n + 3 * h.edge

-- a halfedge without twin: E.1, and each end meets the other
unfoldable pub border_edge : ℕ → Halfedge → List ℤ → List ℤ
border_edge n h l = meet n h.to h.from (meet n h.from h.to (put (place n h) (middle h.from h.to) l))

-- a halfedge with a twin: the higher of the two finishes what the lower one starts
abbrev pub inner : ℕ → Halfedge → List ℤ → ℕ → ℤ
inner n h l = cond (ltb h.twin h.number) (finish h l (place n h)) (start h)

unfoldable pub inner_edge : ℕ → Halfedge → List ℤ → List ℤ
inner_edge n h l = put (place n h) (inner n h l) l

-- what `inner_edge` asks: there is room, the points are in range, and where h is the higher halfedge of its edge, the lower one has
-- been there
pub record AsksInner (n : ℕ) (h : Halfedge) (l : List ℤ) : Type 0 where
  pub spanned : Spanned h
  pub room : place n h + 2 < length l
  pub begun : h.twin < h.number → Begun l (place n h)

-- a halfedge with or without a twin
unfoldable pub step_edge : ℕ → Halfedge → List ℤ → List ℤ
step_edge n h l = cond (eqb h.twin marker) (border_edge n h l) (inner_edge n h l)

-- what `step_edge` asks
pub record Asks (n : ℕ) (h : Halfedge) (l : List ℤ) : Type 0 where
  pub in_from : h.from.vertex < n
  pub in_to : h.to.vertex < n
  pub inner_asks : AsksInner n h l

-- the corner that halfedge h leaves
abbrev pub corner_of : List ℕ → List ℤ → ℕ → Corner
corner_of vert points h = record { vertex = cell vert h; point = point_of points (cell vert h) }

-- halfedge h from corner a to b, opposite to c
abbrev pub between : List ℕ → List ℕ → ℕ → Corner → Corner → Corner → Halfedge
between twin edge h a b c = record { number = h; twin = cell twin h; edge = cell edge h; from = a; to = b; opposite = c }

-- halfedge h of the tables
abbrev pub halfedge_of : List ℕ → List ℕ → List ℕ → List ℤ → ℕ → Halfedge
halfedge_of twin vert edge points h =
    between twin edge h (corner_of vert points h) (corner_of vert points (NEXT h)) (corner_of vert points (PREV h))

-- the three halfedges of triangle t
abbrev pub triangle_of : List ℕ → List ℕ → List ℕ → List ℤ → ℕ → Triangle
triangle_of twin vert edge points t =
    record {
      first = halfedge_of twin vert edge points (3 * t);
      second = halfedge_of twin vert edge points (3 * t + 1);
      third = halfedge_of twin vert edge points (3 * t + 2);
    }

-- the tables have triangle t, and every corner has a point
pub record Readable (twin vert edge : List ℕ) (points : List ℤ) (t : ℕ) : Type 0 where
  pub in_twin : 3 * t + 2 < length twin
  pub in_vert : 3 * t + 2 < length vert
  pub in_edge : 3 * t + 2 < length edge
  pub pointed : (h : ℕ) → h < length vert → 3 * cell vert h + 2 < length points

-- one of a triangle's halfedges has no twin
unfoldable pub border_among : Triangle → Bool
border_among x = eqb x.first.twin marker || eqb x.second.twin marker || eqb x.third.twin marker

-- a triangle's three halfedges, one after the other
unfoldable pub in_turn : (Halfedge → List ℤ → List ℤ) → Triangle → List ℤ → List ℤ
in_turn f x l = f x.third (f x.second (f x.first l))

-- each has what it asks, when it is its turn
pub record AskedInTurn (asks : Halfedge → List ℤ → Type 0) (f : Halfedge → List ℤ → List ℤ) (x : Triangle) (l : List ℤ) : Type 0 where
  pub one : asks x.first l
  pub two : asks x.second (f x.first l)
  pub three : asks x.third (f x.second (f x.first l))

-- 4: halfedge h, with the points of a level
unfoldable pub put_edge : List ℕ → List ℕ → List ℕ → ℕ → List ℤ → ℕ → List ℤ → List ℤ
put_edge twin vert edge n points h l = step_edge n (halfedge_of twin vert edge points h) l

-- the tables name halfedges, vertices in range, and edges that there is room for
pub record Edged (twin vert edge : List ℕ) (n : ℕ) (l : List ℤ) : Type 0 where
  pub cornered : Cornered vert n
  pub twin_long : length twin ≡ length vert
  pub edge_long : length edge ≡ length vert
  pub short : length vert ≤ marker
  pub room : (h : ℕ) → h < length vert → 6 * n + 3 * cell edge h + 2 < length l
  pub in_range : InRange (take (3 * n) l)

-- where h is the higher halfedge of its edge, the lower one has been there
abbrev pub Started : List ℕ → List ℕ → ℕ → ℕ → List ℤ → Type 0
Started twin edge n h l = cell twin h < h → Begun l (6 * n + 3 * cell edge h)
