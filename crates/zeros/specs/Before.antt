-- Document 01, "Points", as it stood before document 02's §6 "Edges that stay sharp": only borders are creases. "With all zeros the points
-- equal today's" speaks of these.
use Rattle.std.specs.Prelude.{ℕ, zero, suc, ◌+◌, ◌-◌, ◌*◌, ◌/◌, ◌%◌, Bool, cond, ◌&&◌, List, ◌++◌, map, eqb, ltb, ℤ, length}
use Rattle.halfedges.specs.declared.table.HalfedgeTable.{HalfedgeTable}
use Rattle.laws.specs.Below.{tabulate, select}
use Rattle.laws.specs.Totals.{total}
use Rattle.halfedges.specs.Cage.{PREV, cell, border}
use Rattle.halfedges.specs.Counts.{counts_at}
use Rattle.tables.specs.Tables.{Tables, leaves}
use Rattle.splitting.specs.NextLevel.{level}
use Rattle.points.specs.declared.weights.Weight.{Weight}
use Rattle.points.specs.PointRules.{E1, E2, V2, V3}
use Rattle.points.specs.NextPoints.{coordinate, corners, far, spoke_ends, carrier}

-- "borders treated as creases": h's edge is a crease
abbrev pub crease : List ℕ → ℕ → Bool
crease twin h = border twin h

-- "the far ends of its two border edges, which may be the same vertex": of creases that leave v, and of border edges that end there
unfoldable pub crease_ends : List ℕ → List ℕ → ℕ → List ℕ
crease_ends twin vert v =
    map (far vert) (select (length vert) (λ h. crease twin h && leaves vert v h))
    ++ map (cell vert) (select (length vert) (λ h. border twin h && eqb (far vert h) v))

-- the new place of vertex v: V.3 by the weight chosen where it has no crease, else V.2
unfoldable pub vertex_point : Weight → List ℕ → List ℕ → List ℤ → ℕ → ℕ → ℤ
vertex_point w twin vert points v k =
    cond (eqb (length (crease_ends twin vert v)) 0)
    (V3 w (length (corners vert v)) (coordinate points k v) (total (map (coordinate points k) (spoke_ends vert v))))
    (V2 (coordinate points k v) (total (map (coordinate points k) (crease_ends twin vert v))))

-- the point of h's edge, with ends a, b and opposite corners c, d: E.1 where it is a crease, else E.2
unfoldable pub edge_point : List ℕ → List ℕ → List ℤ → ℕ → ℕ → ℤ
edge_point twin vert points h k =
    let a = coordinate points k (cell vert h) in
    let b = coordinate points k (far vert h) in
    let c = coordinate points k (cell vert (PREV h)) in
    let d = coordinate points k (cell vert (PREV (cell twin h))) in
    cond (crease twin h) (E1 a b) (E2 a b c d)

-- "V becomes V+E": the old vertices, then a vertex for each edge
unfoldable pub new_point : Weight → HalfedgeTable → Tables → List ℤ → ℕ → ℕ → ℤ
new_point w t c points u k =
    cond (ltb u t.vertices)
    (vertex_point w c.twin c.vert points u k)
    (edge_point c.twin c.vert points (carrier c.edge (u - t.vertices)) k)

unfoldable pub next_points : Weight → HalfedgeTable → Tables → List ℤ → List ℤ
next_points w t c points = tabulate (3 * (t.vertices + t.edges)) (λ i. new_point w t c points (i / 3) (i % 3))

-- the points of level d of a cage with counts t, each rounded "once, per level"
unfoldable pub level_points : Weight → HalfedgeTable → Tables → List ℤ → ℕ → List ℤ
level_points w t c points zero = points
level_points w t c points (suc d) = next_points w (counts_at t d) (level t c d) (level_points w t c points d)
