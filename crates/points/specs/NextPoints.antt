-- Document 01, "Points", with document 02, §6 "Edges that stay sharp": a level's points from those of the level before.
use Rattle.std.specs.Prelude.{ℕ, zero, suc, ◌+◌, ◌-◌, ◌*◌, ◌/◌, ◌%◌, Bool, cond, ◌&&◌, ◌||◌, List, [], ◌∷◌, ◌++◌, map, eqb, ltb, ℤ, pos, length, get_or}
use Rattle.halfedges.specs.declared.table.HalfedgeTable.{HalfedgeTable}
use Rattle.laws.specs.Below.{tabulate, select, lowest}
use Rattle.halfedges.specs.Cage.{NEXT, PREV, cell, border}
use Rattle.halfedges.specs.Counts.{counts_at}
use Rattle.tables.specs.Tables.{Tables, leaves}
use Rattle.splitting.specs.NextLevel.{level}
use Rattle.creases.specs.Creases.{creases_at}
use Rattle.points.specs.declared.weights.Weight.{Weight}
use Rattle.points.specs.PointRules.{E1, E2, V2, V3}
use Rattle.laws.specs.Totals.{total}

-- "x, y, z per vertex": coordinate k of vertex v
abbrev pub coordinate : List ℤ → ℕ → ℕ → ℤ
coordinate points k v = get_or points (3 * v + k) (pos 0)

-- the point of vertex v
abbrev pub point_of : List ℤ → ℕ → List ℤ
point_of points v = coordinate points 0 v ∷ coordinate points 1 v ∷ coordinate points 2 v ∷ []

-- the corners at v
unfoldable pub corners : List ℕ → ℕ → List ℕ
corners vert v = select (length vert) (leaves vert v)

-- where halfedge h ends
abbrev pub far : List ℕ → ℕ → ℕ
far vert h = cell vert (NEXT h)

-- "its n spokes' far ends": "a far end reached by two spokes counts twice"
unfoldable pub spoke_ends : List ℕ → ℕ → List ℕ
spoke_ends vert v = map (far vert) (corners vert v)

-- "An edge is a crease while its number is above 0 or it is a border": h's edge is one
abbrev pub crease : Tables → List ℕ → ℕ → Bool
crease c creases h = ltb 0 (cell creases (cell c.edge h)) || border c.twin h

-- the far ends of v's creases, each crease once: of those that leave v, an inner one by one of its two halfedges, and of border edges
-- that end there; "which may be the same vertex"
unfoldable pub crease_ends : Tables → List ℕ → ℕ → List ℕ
crease_ends c creases v =
    map (far c.vert) (select (length c.vert) (λ h. crease c creases h && leaves c.vert v h))
    ++ map (cell c.vert) (select (length c.vert) (λ h. border c.twin h && eqb (far c.vert h) v))

-- the new place of vertex v: "with two creases" V.2 "along them, with more than two it stays put, with fewer it is smooth", by V.3 and the
-- weight chosen
unfoldable pub vertex_point : Weight → Tables → List ℕ → List ℤ → ℕ → ℕ → ℤ
vertex_point w c creases points v k =
    let own = coordinate points k v in
    let ends = crease_ends c creases v in
    cond (ltb (length ends) 2)
    (V3 w (length (corners c.vert v)) own (total (map (coordinate points k) (spoke_ends c.vert v))))
    (cond (eqb (length ends) 2) (V2 own (total (map (coordinate points k) ends))) own)

-- the point of h's edge, with ends a, b and opposite corners l, r: "its midpoint", E.1, where it is a crease, else E.2
unfoldable pub edge_point : Tables → List ℕ → List ℤ → ℕ → ℕ → ℤ
edge_point c creases points h k =
    let a = coordinate points k (cell c.vert h) in
    let b = coordinate points k (far c.vert h) in
    let l = coordinate points k (cell c.vert (PREV h)) in
    let r = coordinate points k (cell c.vert (PREV (cell c.twin h))) in
    cond (crease c creases h) (E1 a b) (E2 a b l r)

-- the lowest halfedge that carries edge e
abbrev pub carrier : List ℕ → ℕ → ℕ
carrier edge e = lowest (length edge) (λ h. eqb (cell edge h) e)

-- "V becomes V+E": the old vertices, then a vertex for each edge
unfoldable pub new_point : Weight → HalfedgeTable → Tables → List ℕ → List ℤ → ℕ → ℕ → ℤ
new_point w t c creases points u k =
    cond (ltb u t.vertices)
    (vertex_point w c creases points u k)
    (edge_point c creases points (carrier c.edge (u - t.vertices)) k)

unfoldable pub next_points : Weight → HalfedgeTable → Tables → List ℕ → List ℤ → List ℤ
next_points w t c creases points = tabulate (3 * (t.vertices + t.edges)) (λ i. new_point w t c creases points (i / 3) (i % 3))

-- the points of level d of a cage with counts t, each rounded "once, per level"
unfoldable pub level_points : Weight → HalfedgeTable → Tables → List ℕ → List ℤ → ℕ → List ℤ
level_points w t c creases points zero = points
level_points w t c creases points (suc d) =
    next_points w (counts_at t d) (level t c d) (creases_at t creases d) (level_points w t c creases points d)
