-- The counts of a level as the writers of text pass them: no promise of a program cites this.
use Rattle.std.specs.Prelude.{List, ℕ}
use Rattle.text.specs.declared.lines.LevelCounts.{LevelCounts}
use Rattle.text.specs.Lines.{count_words}

-- the words of a level's counts
abbrev pub words_of : LevelCounts → List (List ℕ)
words_of c = count_words c.level c.halfedges c.edges c.vertices
