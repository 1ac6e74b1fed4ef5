-- Document 02, §2 "STL out to the mill": what writing answers, and what it leaves in the lent file.
use Rattle.std.specs.Prelude.{ℕ, Bool, List, [], ◌∷◌, ◌++◌, ltb, leb, ℤ, length}
use Rattle.halfedges.specs.Cage.{cell}
use Rattle.halfedges.specs.Refusals.{Verdict, SHAPE, LIMIT, VERTEX, POINT, given, given_at, short, first}
use Rattle.points.specs.Operations.{vertices, unshaped, out_of_range}
use Rattle.writing.specs.Writing.{Written, written}
use Rattle.stl.specs.File.{stl_file}

-- "a table longer than 12,582,912"
abbrev pub longest : ℕ
longest = 12582912

-- 4 "corner is past the points"
unfoldable pub past_points : List ℕ → ℕ → ℕ → Bool
past_points vert v h = leb v (cell vert h)

-- "Refusals: 1 .., 2 .., 4 at the lowest halfedge whose corner is past the points, 8"
unfoldable pub stl_checks : List ℕ → List ℤ → List Verdict
stl_checks vert points =
    given (unshaped vert points) SHAPE
    ∷ given (ltb longest (length vert)) LIMIT
    ∷ given_at (length vert) (past_points vert (vertices points)) VERTEX
    ∷ given_at (length points) (out_of_range points) POINT
    ∷ []

-- "9 at place 6 for the file"
unfoldable pub stl_verdict : List ℕ → List ℤ → List ℕ → Verdict
stl_verdict vert points lent = first (stl_checks vert points ++ (short 6 (length (stl_file vert points)) (length lent) ∷ []))

-- "Every byte is promised ..; bytes past the file stay, and done returns its length"
unfoldable pub write_stl : List ℕ → List ℤ → List ℕ → Written
write_stl vert points lent = written (stl_verdict vert points lent) (stl_file vert points) lent
