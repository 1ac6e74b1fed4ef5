-- What checking the tables alone answers.
use Rattle.std.specs.Prelude.{ℕ, List, [], ◌∷◌, ◌++◌, Result, length, replicate}
use Rattle.halfedges.specs.declared.refusal.Refusal.{Refusal}
use Rattle.tables.specs.declared.check.Checked.{Checked}
use Rattle.halfedges.specs.Cage.{F, E, B}
use Rattle.halfedges.specs.Refusals.{Verdict, SHAPE, LIMIT, TWIN, VERTEX, UNUSED, EDGE, FAN, given, given_at, first, Said, said, answered}
use Rattle.halfedges.specs.Counts.{above_limit}
use Rattle.tables.specs.Tables.{Tables}
use Rattle.tables.specs.Rules.{misshapen, bad_twin, bad_vertex, unused, bad_edge}
use Rattle.tables.specs.Fans.{not_one_fan}

-- rules 4 to 6 in number order
abbrev pub placing : Tables → ℕ → List Verdict
placing c v =
    given_at (length c.twin) (bad_vertex c.twin c.vert v) VERTEX
    ∷ given_at v (unused c.vert) UNUSED
    ∷ given_at (length c.twin) (bad_edge c.twin c.edge (E c.twin)) EDGE
    ∷ []

-- rules 3 to 7 in number order, with more checks "after 3 and before 4", and "after 6 and before 7"
abbrev pub rules_with : List Verdict → List Verdict → Tables → ℕ → List Verdict
rules_with after3 after6 c v =
    given_at (length c.twin) (bad_twin c.twin) TWIN
    ∷ (after3 ++ (placing c v ++ (after6 ++ (given_at v (not_one_fan c.twin c.vert) FAN ∷ []))))

-- rules 3 to 7 in number order
unfoldable pub rules : Tables → ℕ → List Verdict
rules c v = rules_with [] [] c v

-- 1 and 2, and more
abbrev pub checks_then : List Verdict → Tables → ℕ → ℕ → List Verdict
checks_then more c v depth = given (misshapen c) SHAPE ∷ given (above_limit (length c.twin) v depth) LIMIT ∷ more

-- 1 to 3
abbrev pub pairing : Tables → ℕ → ℕ → List Verdict
pairing c v depth = checks_then (given_at (length c.twin) (bad_twin c.twin) TWIN ∷ []) c v depth

-- 1 to 7
unfoldable pub table_checks : Tables → ℕ → ℕ → List Verdict
table_checks c v depth = checks_then (rules c v) c v depth

-- "Done, the cage check returns H, E, F, V and B"
unfoldable pub returned : List ℕ → ℕ → List ℕ
returned twin v = length twin ∷ E twin ∷ F (length twin) ∷ v ∷ B twin ∷ []

-- the check 1 to 7, which has no depth
unfoldable pub check_tables : Tables → ℕ → Said (List ℕ)
check_tables c v = said (first (table_checks c v 0)) (returned c.twin v) (replicate 5 0)

-- H, E, F, V and B as the code has them
abbrev pub numbers : Checked → List ℕ
numbers c = c.halfedges ∷ c.edges ∷ c.triangles ∷ c.vertices ∷ c.borders ∷ []

-- what the code's answer says
abbrev pub checked : Result Checked Refusal → Said (List ℕ)
checked = answered numbers (replicate 5 0)
