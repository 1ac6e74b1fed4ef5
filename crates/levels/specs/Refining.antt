-- What refining the tables alone answers, and what it leaves in every lent table.
use Rattle.std.specs.Prelude.{ℕ, suc, List, [], ◌∷◌, ◌++◌, length}
use Rattle.halfedges.specs.declared.table.HalfedgeTable.{HalfedgeTable}
use Rattle.halfedges.specs.declared.table.Levels.{Levels}
use Rattle.laws.specs.Below.{end_to_end}
use Rattle.halfedges.specs.Refusals.{Verdict, short, first, Said, said, filled}
use Rattle.halfedges.specs.Counts.{no_levels, room_h, count_question}
use Rattle.tables.specs.Tables.{Tables, tables, counts_of}
use Rattle.splitting.specs.NextLevel.{level}
use Rattle.tables.specs.Check.{table_checks}

-- 9 "first short one: 1 twin, 2 vert, 3 edge"
unfoldable pub short_tables : ℕ → Tables → List Verdict
short_tables room lent = short 1 room (length lent.twin) ∷ short 2 room (length lent.vert) ∷ short 3 room (length lent.edge) ∷ []

-- three lent tables, of which each once done holds its cells
unfoldable pub filled_tables : Verdict → Tables → Tables → Tables
filled_tables verdict cells lent =
    tables
    (filled verdict cells.twin lent.twin)
    (filled verdict cells.vert lent.vert)
    (filled verdict cells.edge lent.edge)

-- "levels 0 to D end to end" in each table
unfoldable pub levels_end_to_end : HalfedgeTable → Tables → ℕ → Tables
levels_end_to_end t c depth =
    tables
    (end_to_end (suc depth) (λ d. (level t c d).twin))
    (end_to_end (suc depth) (λ d. (level t c d).vert))
    (end_to_end (suc depth) (λ d. (level t c d).edge))

-- refining the tables alone: 1 to 7, then 9 with "the sum of H in each of the first three"
unfoldable pub refine_tables_verdict : Tables → ℕ → ℕ → Tables → Verdict
refine_tables_verdict c v depth lent = first (table_checks c v depth ++ short_tables (room_h (counts_of c v) depth) lent)

pub record RefinedTables : Type 0 where
  pub answer : Said Levels
  pub lent : Tables

-- "Done returns the count question's answer for this cage and depth"
unfoldable pub refine_tables : Tables → ℕ → ℕ → Tables → RefinedTables
refine_tables c v depth lent =
    let t = counts_of c v in
    let verdict = refine_tables_verdict c v depth lent in
    record {
      answer = said verdict (count_question t depth).values no_levels;
      lent = filled_tables verdict (levels_end_to_end t c depth) lent;
    }
