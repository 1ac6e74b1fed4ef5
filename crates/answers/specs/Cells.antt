-- What stands in the cells of an answer that a host lends.
use Rattle.std.specs.Prelude.{ℕ, cond, List, [], ◌∷◌, ◌++◌, ltb}
use Rattle.halfedges.specs.declared.table.Levels.{Levels}
use Rattle.halfedges.specs.Refusals.{Said}
use Rattle.clauses.specs.Clauses.{Clause}
use Rattle.climbing.specs.declared.rows.Cells.{Cells}

-- number, place and what is returned besides
abbrev pub cells : Said (List ℕ) → List ℕ
cells s = s.verdict.number ∷ s.verdict.place ∷ s.values

-- number, place and a file's length
abbrev pub length_cells : Said ℕ → List ℕ
length_cells s = cells (record { verdict = s.verdict; values = s.values ∷ [] })

-- a number as a cell; one that does not fit, such as a place in points of more than 2^32 coordinates, is told as the largest that does
abbrev pub number_cell : ℕ → ℕ
number_cell n = cond (ltb n 4294967296) n 4294967295

-- number, place and the length of an STL file
abbrev pub stl_cells : Said ℕ → List ℕ
stl_cells s = s.verdict.number ∷ number_cell s.verdict.place ∷ s.values ∷ []

-- "the counts of all seven levels at once, H, E and V of each .., with the room", the sums of H, of V and of E
abbrev pub level_numbers : Levels → List ℕ
level_numbers l = l.halfedges ++ (l.edges ++ (l.vertices ++ (l.halfedge_room ∷ l.vertex_room ∷ l.edge_room ∷ [])))

-- number, place and the counts
abbrev pub level_cells : Said Levels → List ℕ
level_cells s = cells (record { verdict = s.verdict; values = level_numbers s.values })

-- number, place, and the clause with its three numbers
abbrev pub clause_cells : Said Clause → List ℕ
clause_cells s =
    let k = s.values in
    cells (record { verdict = s.verdict; values = k.number ∷ k.first ∷ k.second ∷ k.third ∷ [] })

-- number, place, TWIN, VERT and EDGE
abbrev pub halfedge_cells : Said Cells → List ℕ
halfedge_cells s =
    let x = s.values in
    cells (record { verdict = s.verdict; values = x.twin ∷ x.vert ∷ x.edge ∷ [] })
