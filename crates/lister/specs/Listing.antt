-- Document 01, "The level lister": what is printed for a file's bytes.
use Rattle.std.specs.Prelude.{ℕ, List, [], ◌∷◌, ◌++◌, ℤ}
use Rattle.laws.specs.Below.{end_to_end}
use Rattle.halfedges.specs.declared.table.HalfedgeTable.{HalfedgeTable}
use Rattle.halfedges.specs.declared.table.Levels.{Levels}
use Rattle.halfedges.specs.Cage.{most_depth, B}
use Rattle.halfedges.specs.Counts.{levels}
use Rattle.tables.specs.Tables.{Tables, counts_of}
use Rattle.splitting.specs.NextLevel.{level}
use Rattle.points.specs.Operations.{vertices}
use Rattle.text.specs.Lines.{decimal, line, level_words, room_line}
use Rattle.text.specs.Replies.{Reply}
use Rattle.intake.specs.Intake.{file_reply}

-- "level, H, E, F, V, B" of level k, whose B is borders k
abbrev pub level_line : Levels → (ℕ → ℕ) → ℕ → List ℕ
level_line l borders k = line (level_words l k ++ (decimal (borders k) ∷ []))

-- "prints seven lines .. then `room`, the sum of H and the sum of V for depth 6", and of E
unfoldable pub level_lines : Levels → (ℕ → ℕ) → List ℕ
level_lines l borders = end_to_end 7 (level_line l borders) ++ room_line l.halfedge_room l.vertex_room l.edge_room

-- "B, the border edges, is the number without a twin", in the table of level k
unfoldable pub level_borders : HalfedgeTable → Tables → ℕ → ℕ
level_borders t c k = B (level t c k).twin

-- the lines of an accepted cage
unfoldable pub cage_lines : Tables → List ℤ → List ℕ
cage_lines c points = let t = counts_of c (vertices points) in level_lines (levels t most_depth) (level_borders t c)

-- "Reads one cage file on standard input, checks the cage and prints"; "A refusal prints only one line"
abbrev pub listing : List ℕ → Reply
listing = file_reply cage_lines
