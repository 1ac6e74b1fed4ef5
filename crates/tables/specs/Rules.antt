-- Document 01, "Why a cage is sent back": rules 1 and 3 to 6 of the tables, each a test at its place: one of its clauses holds there.
use Rattle.std.specs.Prelude.{ℕ, ◌%◌, Bool, not, ◌&&◌, ◌||◌, List, eqb, leb, length}
use Rattle.laws.specs.Below.{any}
use Rattle.halfedges.specs.Cage.{NEXT, cell, border}
use Rattle.tables.specs.Tables.{Tables, leaves}

-- 1 "H is 0 or no multiple of 3, VERT or EDGE length is not H"
unfoldable pub misshapen : Tables → Bool
misshapen c =
    eqb (length c.twin) 0
    || not (eqb (length c.twin % 3) 0)
    || not (eqb (length c.vert) (length c.twin))
    || not (eqb (length c.edge) (length c.twin))

-- 3 "some twin is not the marker and is ≥ H"
abbrev pub twin_past : List ℕ → ℕ → Bool
twin_past twin h = not (border twin h) && leb (length twin) (cell twin h)

-- "or is h itself"
abbrev pub twin_itself : List ℕ → ℕ → Bool
twin_itself twin h = not (border twin h) && eqb (cell twin h) h

-- "or its own twin is not h"
abbrev pub not_returned : List ℕ → ℕ → Bool
not_returned twin h = not (border twin h) && not (eqb (cell twin (cell twin h)) h)

unfoldable pub bad_twin : List ℕ → ℕ → Bool
bad_twin twin h = twin_past twin h || twin_itself twin h || not_returned twin h

-- 4 "VERT(h) ≥ V"
abbrev pub vertex_past : List ℕ → ℕ → ℕ → Bool
vertex_past vert v h = leb v (cell vert h)

-- "or VERT(h) = VERT(NEXT(h))"
abbrev pub ends_alike : List ℕ → ℕ → Bool
ends_alike vert h = eqb (cell vert h) (cell vert (NEXT h))

-- "or h has twin t and VERT(t) ≠ VERT(NEXT(h))"
abbrev pub twin_ends_differ : List ℕ → List ℕ → ℕ → Bool
twin_ends_differ twin vert h = not (border twin h) && not (eqb (cell vert (cell twin h)) (cell vert (NEXT h)))

unfoldable pub bad_vertex : List ℕ → List ℕ → ℕ → ℕ → Bool
bad_vertex twin vert v h = vertex_past vert v h || ends_alike vert h || twin_ends_differ twin vert h

-- 5 "some vertex number below V is on no halfedge"
unfoldable pub unused : List ℕ → ℕ → Bool
unused vert v = not (any (length vert) (leaves vert v))

-- 6 "EDGE(h) ≥ E"
abbrev pub edge_past : List ℕ → ℕ → ℕ → Bool
edge_past edge e h = leb e (cell edge h)

-- "or differs from its twin's"
abbrev pub edge_differs : List ℕ → List ℕ → ℕ → Bool
edge_differs twin edge h = not (border twin h) && not (eqb (cell edge (cell twin h)) (cell edge h))

-- g carries h's edge and "is neither h nor its twin"
unfoldable pub stranger : List ℕ → List ℕ → ℕ → ℕ → Bool
stranger twin edge h g = eqb (cell edge g) (cell edge h) && not (eqb g h) && not (eqb g (cell twin h))

-- "or is carried by a halfedge that is neither h nor its twin"
abbrev pub edge_shared : List ℕ → List ℕ → ℕ → Bool
edge_shared twin edge h = any (length edge) (stranger twin edge h)

unfoldable pub bad_edge : List ℕ → List ℕ → ℕ → ℕ → Bool
bad_edge twin edge e h = edge_past edge e h || edge_differs twin edge h || edge_shared twin edge h
