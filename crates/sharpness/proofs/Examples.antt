-- A tetrahedron with three creases at one corner, and refusals: computed from the definitions (`star`, `refusals`, `order`). What stands
-- on the right was worked out from documents 01 and 02 apart. Assumes nothing.
use Prim.Native.Nat.{ℕ}
use mathlib.Core.Path.{◌≡◌, refl}
use mathlib.Core.List.{List, [], ◌∷◌}
use lib.IntN.{ℤ, pos, neg_ℤ}
use lib.ListN.{take, replicate}
use Rattle.halfedges.specs.declared.table.HalfedgeTable.{HalfedgeTable}
use Rattle.halfedges.specs.Cage.{NEXT, PREV, marker, above, E}
use Rattle.halfedges.specs.Counts.{counts_at}
use Rattle.halfedges.specs.Refusals.{SHAPE, TWIN, EDGE, FAN, CREASE, given, given_at, first}
use Rattle.tables.specs.Tables.{Tables, tables, counts_of}
use Rattle.tables.specs.Rules.{bad_twin, bad_vertex, unused, stranger, bad_edge}
use Rattle.tables.specs.Fans.{met, joined, not_one_fan}
use Rattle.splitting.specs.NextLevel.{rows, new_twin, new_edge, new_vert, next_twins, next_edges, next_verts, level}
use Rattle.rounding.specs.Rounding.{round}
use Rattle.creases.specs.Creases.{misshapen_creases, edge_on_border, bad_crease, next_creases, creases_at}
use Rattle.creases.specs.Check.{creased_rules}
use Rattle.points.specs.declared.weights.Weight.TheVariants.{Short}
use Rattle.points.specs.PointRules.{E1, E2, V2, V3}
use Rattle.points.specs.NextPoints.{corners, spoke_ends, crease_ends, vertex_point, edge_point, new_point, next_points, level_points}

abbrev tetrahedron : Tables
tetrahedron =
    tables
    (8 ∷ 11 ∷ 3 ∷ 2 ∷ 10 ∷ 6 ∷ 5 ∷ 9 ∷ 0 ∷ 7 ∷ 4 ∷ 1 ∷ [])
    (0 ∷ 1 ∷ 2 ∷ 0 ∷ 2 ∷ 3 ∷ 0 ∷ 3 ∷ 1 ∷ 1 ∷ 3 ∷ 2 ∷ [])
    (0 ∷ 1 ∷ 2 ∷ 2 ∷ 3 ∷ 4 ∷ 4 ∷ 5 ∷ 0 ∷ 5 ∷ 3 ∷ 1 ∷ [])

abbrev counts : HalfedgeTable
counts = counts_of tetrahedron 4

-- x, y and how far z is below 0, of vertex after vertex
abbrev places : List ℕ → List ℤ
places [] = []
places (x ∷ []) = []
places (x ∷ (y ∷ [])) = []
places (x ∷ (y ∷ (z ∷ more))) = pos x ∷ pos y ∷ neg_ℤ (pos z) ∷ places more

abbrev points : List ℤ
points = places (0 ∷ 0 ∷ 0 ∷ 16 ∷ 0 ∷ 0 ∷ 0 ∷ 16 ∷ 0 ∷ 0 ∷ 0 ∷ 13 ∷ [])

-- edges 0, 2 and 4 meet at vertex 0
abbrev seam : List ℕ
seam = 2 ∷ 0 ∷ 1 ∷ 0 ∷ 1 ∷ 0 ∷ []

-- the halves of edge 0 have 1 at level 1, and none has more than 0 at level 2
numbers : (creases_at counts seam 1 ≡ 1 ∷ 1 ∷ replicate 22 0) × (creases_at counts seam 2 ≡ replicate 96 0)
unfolding above E counts_at next_creases creases_at
numbers = (refl, refl)

-- level 1: vertex 0 stays put, edges 0, 2 and 4 get their midpoints; level 2, of which the first vertices: vertex 0 has one crease left and
-- is smooth, edge 0's vertex 4 has two, the halves of edge 0 get their midpoints
star :
    (level_points Short counts tetrahedron seam points 1
    ≡ places (0 ∷ 0 ∷ 0 ∷ 10 ∷ 2 ∷ 2 ∷ 2 ∷ 10 ∷ 2 ∷ 2 ∷ 2 ∷ 8 ∷ 8 ∷ 0 ∷ 0 ∷ 6 ∷ 6 ∷ 2 ∷ 0 ∷ 8 ∷ 0 ∷ 2 ∷ 6 ∷ 5 ∷ 0 ∷ 0 ∷ 7 ∷ 6 ∷ 2 ∷ 5 ∷ []))
    × (take 36 (level_points Short counts tetrahedron seam points 2)
    ≡ places (1 ∷ 1 ∷ 1 ∷ 9 ∷ 2 ∷ 2 ∷ 2 ∷ 9 ∷ 2 ∷ 2 ∷ 2 ∷ 7 ∷ 7 ∷ 0 ∷ 0 ∷ 6 ∷ 6 ∷ 2 ∷ 1 ∷ 6 ∷ 1 ∷ 2 ∷ 6 ∷ 5 ∷ 1 ∷ 1 ∷ 6 ∷ 6 ∷ 2 ∷ 5 ∷ 9 ∷ 1 ∷ 1 ∷ 4 ∷ 0 ∷ 0 ∷ []))
unfolding NEXT PREV above E counts_at rows new_twin new_edge new_vert next_twins next_edges next_verts level round E1 E2 V2 V3 corners spoke_ends next_creases creases_at crease_ends vertex_point edge_point new_point next_points level_points
star = (refl, refl)

abbrev triangle : Tables
triangle = tables (marker ∷ marker ∷ marker ∷ []) (0 ∷ 1 ∷ 2 ∷ []) (0 ∷ 1 ∷ 2 ∷ [])

-- a number above 10, and a border edge that is not 0, each at its lowest place; a table that is one short
refusals :
    (first (creased_rules tetrahedron (0 ∷ 11 ∷ 0 ∷ 0 ∷ 0 ∷ 12 ∷ []) 4) ≡ CREASE 1)
    × (first (creased_rules triangle (0 ∷ 1 ∷ 1 ∷ []) 3) ≡ CREASE 1)
    × (first (creased_rules tetrahedron (0 ∷ 11 ∷ 0 ∷ 0 ∷ 0 ∷ []) 4) ≡ SHAPE)
unfolding NEXT PREV above E given given_at first bad_twin bad_vertex unused stranger bad_edge met joined not_one_fan misshapen_creases edge_on_border bad_crease creased_rules
refusals = (refl, refl, refl)

-- two triangles that meet at vertex 0 alone
abbrev bow : Tables
bow = tables (replicate 6 marker) (0 ∷ 1 ∷ 2 ∷ 0 ∷ 3 ∷ 4 ∷ []) (0 ∷ 1 ∷ 2 ∷ 3 ∷ 4 ∷ 5 ∷ [])

-- of two refusals the one that comes first: 3 before 1, 1 before 4, 6 before 15, 15 before 7
order :
    (first (creased_rules (tables (0 ∷ marker ∷ marker ∷ []) triangle.vert triangle.edge) [] 3) ≡ TWIN 0)
    × (first (creased_rules triangle (0 ∷ 0 ∷ []) 2) ≡ SHAPE)
    × (first (creased_rules (tables triangle.twin triangle.vert (0 ∷ 1 ∷ 3 ∷ [])) (0 ∷ 1 ∷ 0 ∷ []) 3) ≡ EDGE 2)
    × (first (creased_rules bow (0 ∷ 0 ∷ 0 ∷ 0 ∷ 0 ∷ 1 ∷ []) 5) ≡ CREASE 5)
    × (first (creased_rules bow (replicate 6 0) 5) ≡ FAN 0)
unfolding NEXT PREV above E given given_at first bad_twin bad_vertex unused stranger bad_edge met joined not_one_fan misshapen_creases edge_on_border bad_crease creased_rules
order = (refl, refl, refl, refl, refl)
