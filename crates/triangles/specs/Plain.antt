-- Document 02, §1 "Cages as plain triangles": TWIN and EDGE from VERT alone.
use Rattle.std.specs.Prelude.{ℕ, ◌<◌, ◌≡◌, Bool, false, cond, not, ◌&&◌, ◌||◌, List, eqb, ltb, length}
use Rattle.laws.specs.Below.{tabulate, count, any, lowest}
use Rattle.halfedges.specs.Cage.{NEXT, marker, cell, border}

-- h runs from one vertex to another: they are its directed pair of vertices
abbrev pub runs : List ℕ → ℕ → ℕ → ℕ → Bool
runs vert from to h = eqb (cell vert h) from && eqb (cell vert (NEXT h)) to

-- "the same directed pair of vertices occurs on two halfedges", of which h is the lower
unfoldable pub doubled : List ℕ → ℕ → Bool
doubled vert h = any (length vert) (λ g. ltb h g && runs vert (cell vert h) (cell vert (NEXT h)) g)

-- it occurs on two nowhere: the directed pairs are all different
pub record Undoubled (vert : List ℕ) : Type 0 where
  pub each : (h : ℕ) → h < length vert → doubled vert h ≡ false

-- "Two different halfedges are twins exactly when they run between the same two vertices the opposite way"
unfoldable pub twins : List ℕ → ℕ → ℕ → Bool
twins vert h g = not (eqb g h) && runs vert (cell vert (NEXT h)) (cell vert h) g

-- TWIN of h: its twin, or the marker
unfoldable pub twin_of : List ℕ → ℕ → ℕ
twin_of vert h = cond (any (length vert) (twins vert h)) (lowest (length vert) (twins vert h)) marker

abbrev pub twin_table : List ℕ → List ℕ
twin_table vert = tabulate (length vert) (twin_of vert)

-- h is its edge's lowest halfedge: it has no twin or a twin with a higher number
unfoldable pub is_lowest : List ℕ → ℕ → Bool
is_lowest twin h = border twin h || ltb h (cell twin h)

-- the lowest halfedge of h's edge
unfoldable pub lowest_of : List ℕ → ℕ → ℕ
lowest_of twin h = cond (is_lowest twin h) h (cell twin h)

-- EDGE of h: "edges are numbered by the order of their lowest halfedge"
unfoldable pub edge_of : List ℕ → ℕ → ℕ
edge_of twin h = count (lowest_of twin h) (is_lowest twin)

abbrev pub edge_table : List ℕ → List ℕ
edge_table twin = tabulate (length twin) (edge_of twin)
