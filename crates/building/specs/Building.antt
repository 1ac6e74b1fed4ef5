-- Document 02, §1 "Cages as plain triangles": what building answers, and what it leaves in both lent tables.
use Rattle.std.specs.Prelude.{ℕ, List, [], ◌∷◌, ◌++◌, ℤ, length, replicate}
use Rattle.halfedges.specs.Refusals.{Verdict, SHAPE, LIMIT, VERTEX, UNUSED, FAN, POINT, DOUBLED, given, given_at, short, first, Said, said, filled}
use Rattle.halfedges.specs.Counts.{above_limit}
use Rattle.tables.specs.Tables.{Tables, tables}
use Rattle.tables.specs.Rules.{bad_vertex, unused}
use Rattle.tables.specs.Fans.{not_one_fan}
use Rattle.tables.specs.Check.{returned}
use Rattle.points.specs.Operations.{vertices, unshaped, out_of_range}
use Rattle.triangles.specs.Plain.{doubled, twin_table, edge_table}

-- "Build the missing tables from VERT"
abbrev pub built : List ℕ → Tables
built vert = tables (twin_table vert) vert (edge_table (twin_table vert))

-- "Refusals: 1, 2, 13 DOUBLED at the lower halfedge of the first such pair by that number, then 4, 5, 7, 8"
unfoldable pub build_checks : List ℕ → List ℤ → List Verdict
build_checks vert points =
    given (unshaped vert points) SHAPE
    ∷ given (above_limit (length vert) (vertices points) 0) LIMIT
    ∷ given_at (length vert) (doubled vert) DOUBLED
    ∷ given_at (length vert) (bad_vertex (twin_table vert) vert (vertices points)) VERTEX
    ∷ given_at (vertices points) (unused vert) UNUSED
    ∷ given_at (vertices points) (not_one_fan (twin_table vert) vert) FAN
    ∷ given_at (length points) (out_of_range points) POINT
    ∷ []

-- and 9: H cells of TWIN, and of EDGE
unfoldable pub build_verdict : List ℕ → List ℤ → List ℕ → List ℕ → Verdict
build_verdict vert points lentTwin lentEdge =
    first
    (build_checks vert points
    ++ (short 1 (length vert) (length lentTwin) ∷ short 3 (length vert) (length lentEdge) ∷ []))

pub record Built : Type 0 where
  pub answer : Said (List ℕ)
  pub twin : List ℕ
  pub edge : List ℕ

-- "Done returns what the cage check does; cells past H stay"
unfoldable pub build_cage : List ℕ → List ℤ → List ℕ → List ℕ → Built
build_cage vert points lentTwin lentEdge =
    let verdict = build_verdict vert points lentTwin lentEdge in
    record {
      answer = said verdict (returned (twin_table vert) (vertices points)) (replicate 5 0);
      twin = filled verdict (twin_table vert) lentTwin;
      edge = filled verdict (edge_table (twin_table vert)) lentEdge;
    }
