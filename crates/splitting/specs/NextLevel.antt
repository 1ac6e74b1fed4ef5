-- Document 01, "One level to the next": the four rows, and the levels.
use Rattle.std.specs.Prelude.{ℕ, zero, suc, ◌+◌, ◌-◌, ◌*◌, ◌/◌, ◌%◌, cond, List, eqb, ltb, length}
use Rattle.halfedges.specs.declared.table.HalfedgeTable.{HalfedgeTable}
use Rattle.laws.specs.Below.{tabulate}
use Rattle.halfedges.specs.Cage.{NEXT, PREV, marker, cell, border, above}
use Rattle.halfedges.specs.Counts.{counts_at}
use Rattle.tables.specs.Tables.{Tables}

-- the new halfedge k by the row that it stands in: 3h, 3h+1, 3h+2 or 3H+h
unfoldable pub rows : ℕ → (ℕ → ℕ) → (ℕ → ℕ) → (ℕ → ℕ) → (ℕ → ℕ) → ℕ → ℕ
rows H r₀ r₁ r₂ r₃ k =
    cond (ltb k (3 * H))
    (cond (eqb (k % 3) 0) (r₀ (k / 3)) (cond (eqb (k % 3) 1) (r₁ (k / 3)) (r₂ (k / 3))))
    (r₃ (k - 3 * H))

-- "A missing t or t' gives the marker as the new twin"
abbrev pub where_twin : List ℕ → ℕ → ℕ → ℕ
where_twin twin h x = cond (border twin h) marker x

-- TWIN: 3·NEXT(t)+2 | 3H+h | 3·t' | 3h+1
unfoldable pub new_twin : List ℕ → ℕ → ℕ
new_twin twin =
    rows (length twin)
    (λ h. where_twin twin h (3 * NEXT (cell twin h) + 2))
    (λ h. 3 * length twin + h)
    (λ h. where_twin twin (PREV h) (3 * cell twin (PREV h)))
    (λ h. 3 * h + 1)

-- EDGE: 2·EDGE(h), plus 0 if h > t else 1 | 2E+h | 2·EDGE(h'), plus 1 if h' > t' else 0 | 2E+h
unfoldable pub new_edge : List ℕ → List ℕ → ℕ → ℕ → ℕ
new_edge twin edge e =
    rows (length edge)
    (λ h. 2 * cell edge h + cond (above twin h) 0 1)
    (λ h. 2 * e + h)
    (λ h. 2 * cell edge (PREV h) + cond (above twin (PREV h)) 1 0)
    (λ h. 2 * e + h)

-- VERT: VERT(h) | V+EDGE(h) | V+EDGE(h') | V+EDGE(h')
unfoldable pub new_vert : List ℕ → List ℕ → ℕ → ℕ → ℕ
new_vert vert edge v =
    rows (length vert) (cell vert) (λ h. v + cell edge h) (λ h. v + cell edge (PREV h)) (λ h. v + cell edge (PREV h))

-- the new tables; "H, E and V here are the old level's"
unfoldable pub next_twins : List ℕ → List ℕ
next_twins twin = tabulate (4 * length twin) (new_twin twin)

unfoldable pub next_edges : List ℕ → List ℕ → ℕ → List ℕ
next_edges twin edge e = tabulate (4 * length edge) (new_edge twin edge e)

unfoldable pub next_verts : List ℕ → List ℕ → ℕ → List ℕ
next_verts vert edge v = tabulate (4 * length vert) (new_vert vert edge v)

abbrev pub next : HalfedgeTable → Tables → Tables
next t c =
    record {
      twin = next_twins c.twin;
      vert = next_verts c.vert c.edge t.vertices;
      edge = next_edges c.twin c.edge t.edges;
    }

-- the tables of level d of a cage with counts t; "level 0 is the cage"
unfoldable pub level : HalfedgeTable → Tables → ℕ → Tables
level t c zero = c
level t c (suc d) = next (counts_at t d) (level t c d)
