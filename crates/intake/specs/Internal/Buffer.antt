-- The longest file that can read; the programs' buffers take one byte more.
use Rattle.std.specs.Prelude.{ℕ, ◌+◌, ◌*◌}
use Rattle.halfedges.specs.Cage.{most_halfedges, most_vertices}

-- the longest file that reads: 31 + 6H + 12V + E bytes at the limits, where E is at most H
abbrev pub longest : ℕ
longest = 31 + 7 * most_halfedges + 12 * most_vertices
