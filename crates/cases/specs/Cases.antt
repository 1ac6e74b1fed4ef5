-- Document 01, "Cages to try": P1 to P10, one table and one statement (`as_document_01_says`), computed from the definitions.
-- P6 has document 02's figures for the paper's weight too, and P8 the sum that document 02 adds.
use Rattle.std.specs.Prelude.{ℕ, ◌≡◌, refl, List, [], ◌∷◌, ◌++◌, map, ℤ, pos, neg_ℤ, drop, take, replicate}
use Rattle.halfedges.specs.declared.table.Levels.{Levels}
use Rattle.halfedges.specs.Cage.{NEXT, PREV, marker, cell, above, E, B}
use Rattle.halfedges.specs.Refusals.{given, given_at, short, first, Said, said, filled}
use Rattle.halfedges.specs.Counts.{counts_at, seven, levels, count_shape, above_limit, count_question}
use Rattle.tables.specs.Tables.{Tables, tables}
use Rattle.tables.specs.Rules.{misshapen, bad_twin, bad_vertex, unused, stranger, bad_edge}
use Rattle.tables.specs.Fans.{met, joined, not_one_fan}
use Rattle.splitting.specs.NextLevel.{rows, new_twin, new_edge, new_vert, next_twins, next_edges, next_verts, level}
use Rattle.tables.specs.Check.{rules, returned}
use Rattle.creases.specs.Creases.{no_creases, misshapen_creases, edge_on_border, bad_crease, next_creases, creases_at}
use Rattle.creases.specs.Check.{creased_rules}
use Rattle.levels.specs.Refining.{short_tables, filled_tables, levels_end_to_end}
use Rattle.rounding.specs.Rounding.{round}
use Rattle.points.specs.declared.weights.Weight.{Weight}
use Rattle.points.specs.declared.weights.Weight.TheVariants.{Short, Paper}
use Rattle.points.specs.PointRules.{E1, E2, V2, V3}
use Rattle.points.specs.NextPoints.{corners, spoke_ends, crease_ends, vertex_point, edge_point, new_point, next_points, level_points}
use Rattle.points.specs.Operations.{out_of_range, on_border, many_corners, cage_checks, refine_checks, check_cage, short_lent, refine_verdict, Refined, refine_cage}

-- ---- the cages

-- "M for the marker"
abbrev M : ℕ
M = marker

abbrev triangle : Tables
triangle = record { twin = M ∷ M ∷ M ∷ []; vert = 0 ∷ 1 ∷ 2 ∷ []; edge = 0 ∷ 1 ∷ 2 ∷ [] }

abbrev pillow : Tables
pillow = record { twin = 5 ∷ 4 ∷ 3 ∷ 2 ∷ 1 ∷ 0 ∷ []; vert = 0 ∷ 1 ∷ 2 ∷ 0 ∷ 2 ∷ 1 ∷ []; edge = 0 ∷ 1 ∷ 2 ∷ 2 ∷ 1 ∷ 0 ∷ [] }

abbrev two_triangles : Tables
two_triangles =
    record { twin = M ∷ M ∷ M ∷ M ∷ M ∷ M ∷ []; vert = 0 ∷ 1 ∷ 2 ∷ 0 ∷ 3 ∷ 4 ∷ []; edge = 0 ∷ 1 ∷ 2 ∷ 3 ∷ 4 ∷ 5 ∷ [] }

abbrev own_twin : Tables
own_twin = record { twin = 0 ∷ 4 ∷ 3 ∷ 2 ∷ 1 ∷ 0 ∷ []; vert = pillow.vert; edge = pillow.edge }

-- the points (0,0,0) (n,0,0) (0,n,0)
abbrev corner : ℕ → List ℤ
corner n = map pos (0 ∷ 0 ∷ 0 ∷ n ∷ 0 ∷ 0 ∷ 0 ∷ n ∷ 0 ∷ [])

-- ---- the questions

-- a cage without creases refined to depth 1, in lent tables of h, v and e cells that hold sevens
abbrev refined : Weight → Tables → List ℤ → ℕ → ℕ → ℕ → Refined
refined w c points h v e =
    refine_cage w c (no_creases c.twin) points 1 (tables (replicate h 7) (replicate h 7) (replicate h 7)) (replicate v (pos 7))
    (replicate e 7)

abbrev triangle_refined : Refined
triangle_refined = refined Short triangle (corner 800) 15 27 12

abbrev pillow_by : Weight → Refined
pillow_by w = refined w pillow (corner 16) 30 27 15

-- vertex 0 and edge 0's point of the pillow's level 1
abbrev vertex_and_edge : Refined → List ℤ
vertex_and_edge r = take 3 (drop 9 r.points) ++ take 3 (drop 18 r.points)

-- number and place of an answer
abbrev numbers_of : {A : Type 0} → Said A → List ℤ
numbers_of s = pos s.verdict.number ∷ pos s.verdict.place ∷ []

abbrev room_of : Levels → List ℤ
room_of l = pos l.halfedge_room ∷ pos l.vertex_room ∷ pos l.edge_room ∷ []

-- ---- the table

-- what the definitions give, beside what document 01 says
pub record Case : Type 0 where
  pub gives : List ℤ
  pub says : List ℤ

abbrev P : List ℤ → List ℤ → Case
P given said = record { gives = given; says = said }

abbrev pub cases : List Case
cases =
    -- P1 to P4: the triangle's level 1
    P (map pos (drop 3 triangle_refined.lent.twin)) (map pos (M ∷ 9 ∷ M ∷ M ∷ 10 ∷ M ∷ M ∷ 11 ∷ M ∷ 1 ∷ 4 ∷ 7 ∷ []))
    ∷ P (map pos (drop 3 triangle_refined.lent.edge)) (map pos (0 ∷ 6 ∷ 5 ∷ 2 ∷ 7 ∷ 1 ∷ 4 ∷ 8 ∷ 3 ∷ 6 ∷ 7 ∷ 8 ∷ []))
    ∷ P (map pos (drop 3 triangle_refined.lent.vert)) (map pos (0 ∷ 3 ∷ 5 ∷ 1 ∷ 4 ∷ 3 ∷ 2 ∷ 5 ∷ 4 ∷ 5 ∷ 3 ∷ 4 ∷ []))
    ∷ P (drop 9 triangle_refined.points)
    (map pos (100 ∷ 100 ∷ 0 ∷ 600 ∷ 100 ∷ 0 ∷ 100 ∷ 600 ∷ 0 ∷ 400 ∷ 0 ∷ 0 ∷ 400 ∷ 400 ∷ 0 ∷ 0 ∷ 400 ∷ 0 ∷ []))
    -- P5: the pillow is accepted; TWIN(0), EDGE(0), EDGE(11) and EDGE(15) of its level 1
    ∷ P
    (numbers_of (check_cage pillow (corner 16))
    ++ map pos (cell (drop 6 (pillow_by Short).lent.twin) 0 ∷ map (cell (drop 6 (pillow_by Short).lent.edge)) (0 ∷ 11 ∷ 15 ∷ [])))
    (map pos (0 ∷ 0 ∷ 11 ∷ 1 ∷ 1 ∷ 0 ∷ []))
    -- P6: vertex 0 and edge 0's point, by either weight
    ∷ P (vertex_and_edge (pillow_by Short) ++ vertex_and_edge (pillow_by Paper))
    (map pos (3 ∷ 3 ∷ 0 ∷ 6 ∷ 4 ∷ 0 ∷ 5 ∷ 5 ∷ 0 ∷ 6 ∷ 4 ∷ 0 ∷ []))
    -- P7: refusal 7 at 0
    ∷ P (numbers_of (check_cage two_triangles (replicate 15 (pos 0)))) (map pos (7 ∷ 0 ∷ []))
    -- P8: the room for H 12, E 6, V 4, depth 2, with 6 + 24 + 96, the sum of E
    ∷ P (room_of (count_question (record { halfedges = 12; edges = 6; vertices = 4 }) 2).values) (map pos (252 ∷ 48 ∷ 126 ∷ []))
    -- P9: refusal 3 at 0
    ∷ P (numbers_of (check_cage own_twin (corner 16))) (map pos (3 ∷ 0 ∷ []))
    -- P10: 12/8, −12/8 and −13/8, halves away from zero
    ∷ P (round (pos 12) 8 ∷ round (neg_ℤ (pos 12)) 8 ∷ round (neg_ℤ (pos 13)) 8 ∷ []) (pos 2 ∷ neg_ℤ (pos 2) ∷ neg_ℤ (pos 2) ∷ [])
    ∷ []

-- ---- the statement

pub as_document_01_says : map (λ c. c.gives) cases ≡ map (λ c. c.says) cases
unfolding NEXT PREV above E B given given_at short first said filled counts_at seven levels count_shape above_limit count_question
    misshapen bad_twin bad_vertex unused stranger bad_edge met joined not_one_fan rows new_twin new_edge new_vert next_twins next_edges
    next_verts level rules returned short_tables filled_tables levels_end_to_end round E1 E2 V2 V3 corners spoke_ends crease_ends
    vertex_point edge_point new_point next_points level_points out_of_range on_border many_corners cage_checks refine_checks check_cage
    misshapen_creases edge_on_border bad_crease next_creases creases_at creased_rules short_lent refine_verdict refine_cage
as_document_01_says = refl
