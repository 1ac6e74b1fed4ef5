-- Document 02 §9: "TWIN, VERT and EDGE of one halfedge at a depth".
use Rattle.std.specs.Prelude.{ℕ, List, [], ◌∷◌, ◌++◌, Result, leb}
use Rattle.halfedges.specs.declared.refusal.Refusal.{Refusal}
use Rattle.halfedges.specs.Cage.{cell}
use Rattle.halfedges.specs.Refusals.{Verdict, NO_SUCH_HALFEDGE, given, first, Said, said, answered}
use Rattle.halfedges.specs.Counts.{Hs}
use Rattle.tables.specs.Tables.{Tables, counts_of}
use Rattle.tables.specs.Check.{table_checks}
use Rattle.splitting.specs.NextLevel.{level}
use Rattle.climbing.specs.declared.rows.Cells.{Cells}

-- what the tables hold for halfedge h
abbrev pub cells_of : Tables → ℕ → Cells
cells_of c h = record { twin = cell c.twin h; vert = cell c.vert h; edge = cell c.edge h }

abbrev pub no_cells : Cells
no_cells = record { twin = 0; vert = 0; edge = 0 }

-- "the check's 1 to 7 on these, with the depth limit in 2, then 17 .. when it is not below the level's H"
unfoldable pub halfedge_checks : Tables → ℕ → ℕ → ℕ → List Verdict
halfedge_checks c v depth h = table_checks c v depth ++ (given (leb (Hs (counts_of c v) depth) h) (NO_SUCH_HALFEDGE h) ∷ [])

-- "each reply equal to the cell the refined tables would hold"
unfoldable pub halfedge_question : Tables → ℕ → ℕ → ℕ → Said Cells
halfedge_question c v depth h = said (first (halfedge_checks c v depth h)) (cells_of (level (counts_of c v) c depth) h) no_cells

-- what the code's answer says
abbrev pub asked : Result Cells Refusal → Said Cells
asked = answered (λ x. x) no_cells
