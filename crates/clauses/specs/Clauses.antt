-- Document 02, §8 "Say why": which clause of a rule was broken at the place given, "the first of these that holds", and its numbers.
use Rattle.std.specs.Prelude.{ℕ, Bool, cond, not, ◌&&◌, List, [], ◌∷◌, length, get_or}
use Rattle.laws.specs.Below.{lowest}
use Rattle.halfedges.specs.Cage.{NEXT, cell, E}
use Rattle.halfedges.specs.Refusals.{Verdict}
use Rattle.tables.specs.Tables.{Tables, leaves}
use Rattle.tables.specs.Rules.{twin_past, twin_itself, not_returned, vertex_past, ends_alike, twin_ends_differ, edge_past, edge_differs, stranger, edge_shared}
use Rattle.tables.specs.Fans.{joined}

-- a clause by its number in the rule, with three numbers
pub record Clause : Type 0 where
  pub number : ℕ
  pub first : ℕ
  pub second : ℕ
  pub third : ℕ

-- "numbers not named are 0"
abbrev pub clause : ℕ → ℕ → ℕ → ℕ → Clause
clause n x y z = record { number = n; first = x; second = y; third = z }

abbrev pub no_clause : Clause
no_clause = clause 0 0 0 0

-- 3 "past the table, itself, or not returned"
unfoldable pub twin_clause : List ℕ → ℕ → Clause
twin_clause twin h =
    let t = cell twin h in
    cond (twin_past twin h) (clause 1 t (length twin) 0)
    (cond (twin_itself twin h) (clause 2 t 0 0)
    (cond (not_returned twin h) (clause 3 t (cell twin t) 0) no_clause))

-- 4 "past the points, both ends alike, or ends of the twin differ"
unfoldable pub vertex_clause : List ℕ → List ℕ → ℕ → ℕ → Clause
vertex_clause twin vert v h =
    let t = cell twin h in
    cond (vertex_past vert v h) (clause 1 (cell vert h) v 0)
    (cond (ends_alike vert h) (clause 2 (cell vert h) (NEXT h) 0)
    (cond (twin_ends_differ twin vert h) (clause 3 t (cell vert t) (cell vert (NEXT h))) no_clause))

-- 5 "the vertex"
abbrev pub unused_clause : ℕ → Clause
unused_clause v = clause 1 v 0 0

-- 6 "the lowest stranger"
abbrev pub lowest_stranger : List ℕ → List ℕ → ℕ → ℕ
lowest_stranger twin edge h = lowest (length edge) (stranger twin edge h)

-- "past the count, differs from the twin, or shared"
unfoldable pub edge_clause : List ℕ → List ℕ → ℕ → Clause
edge_clause twin edge h =
    let t = cell twin h in
    cond (edge_past edge (E twin) h) (clause 1 (cell edge h) (E twin) 0)
    (cond (edge_differs twin edge h) (clause 2 t (cell edge h) (cell edge t))
    (cond (edge_shared twin edge h) (clause 3 (cell edge h) (lowest_stranger twin edge h) 0) no_clause))

-- 7 "the lowest corner there"
abbrev pub lowest_corner : List ℕ → ℕ → ℕ
lowest_corner vert v = lowest (length vert) (leaves vert v)

-- h is a corner at v that is not joined with g
unfoldable pub apart : List ℕ → List ℕ → ℕ → ℕ → ℕ → Bool
apart twin vert v g h = leaves vert v h && not (joined twin g h)

-- "and the lowest one not joined to it"
abbrev pub lowest_apart : List ℕ → List ℕ → ℕ → ℕ → ℕ
lowest_apart twin vert v g = lowest (length vert) (apart twin vert v g)

unfoldable pub fan_clause : List ℕ → List ℕ → ℕ → Clause
fan_clause twin vert v =
    let g = lowest_corner vert v in
    clause 1 g (lowest_apart twin vert v g) 0

-- the clause by the number and place of a refusal; "for 1, 2, 8 and later numbers" there is none
unfoldable pub clause_at : Tables → ℕ → Verdict → Clause
clause_at c v w =
    let p = w.place in
    get_or
    (no_clause ∷ no_clause ∷ no_clause
    ∷ twin_clause c.twin p
    ∷ vertex_clause c.twin c.vert v p
    ∷ unused_clause p
    ∷ edge_clause c.twin c.edge p
    ∷ fan_clause c.twin c.vert p
    ∷ [])
    w.number
    no_clause
