-- Document 01, "The cage".
use Rattle.std.specs.Prelude.{ℕ, ◌+◌, ◌-◌, ◌/◌, ◌%◌, Bool, cond, ◌||◌, List, eqb, ltb, length, get_or}
use Rattle.laws.specs.Below.{count}

-- "NEXT(h) is h−2 if h mod 3 is 2, else h+1"
unfoldable pub NEXT : ℕ → ℕ
NEXT h = cond (eqb (h % 3) 2) (h - 2) (h + 1)

-- "PREV(h) is h+2 if h mod 3 is 0, else h−1"
unfoldable pub PREV : ℕ → ℕ
PREV h = cond (eqb (h % 3) 0) (h + 2) (h - 1)

-- "F is H/3"
abbrev pub F : ℕ → ℕ
F h = h / 3

-- "The no-twin marker is 4294967295"
abbrev pub marker : ℕ
marker = 4294967295

-- "Limits: H at most 3,072, V at most 2,048, depth at most 6"
abbrev pub most_halfedges : ℕ
most_halfedges = 3072

abbrev pub most_vertices : ℕ
most_vertices = 2048

abbrev pub most_depth : ℕ
most_depth = 6

-- what a table holds for a halfedge
abbrev pub cell : List ℕ → ℕ → ℕ
cell table h = get_or table h 0

-- h has no twin
abbrev pub border : List ℕ → ℕ → Bool
border twin h = eqb (cell twin h) marker

-- h has no twin or a twin with a lower number: h > t, where "a missing twin counts as lower than every halfedge"
unfoldable pub above : List ℕ → ℕ → Bool
above twin h = border twin h || ltb (cell twin h) h

-- "the number of halfedges that have no twin or a twin with a lower number"
unfoldable pub E : List ℕ → ℕ
E twin = count (length twin) (above twin)

-- "B, the border edges, is the number without a twin"
unfoldable pub B : List ℕ → ℕ
B twin = count (length twin) (border twin)
