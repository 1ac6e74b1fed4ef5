-- Document 02, §8 "Say why": what the tool says, in words that can be read out on the telephone. They are this program's own.
use Rattle.std.specs.Prelude.{ℕ, cond, List, [], ◌∷◌, ◌++◌, eqb, get_or, drop}
use Rattle.halfedges.specs.Cage.{marker}
use Rattle.halfedges.specs.Refusals.{Verdict}
use Rattle.clauses.specs.Clauses.{Clause}
use Rattle.text.specs.Lines.{ascii, decimal, newline}

-- what stands for a number
abbrev pub hash : ℕ
hash = 35

-- a text with a number in the place of each #, one after another
unfoldable pub fill : List ℕ → List ℕ → List ℕ
fill [] ns = []
fill (b ∷ bs) ns = cond (eqb b hash) (decimal (get_or ns 0 0) ++ fill bs (drop 1 ns)) (b ∷ fill bs ns)

-- and as a line
unfoldable pub saying : List ℕ → List ℕ → List ℕ
saying text ns = fill text ns ++ (newline ∷ [])

-- by the number of a clause
unfoldable pub of_three : ℕ → List ℕ → List ℕ → List ℕ → List ℕ → List ℕ
of_three clause one two three ns = cond (eqb clause 1) (saying one ns) (cond (eqb clause 2) (saying two ns) (saying three ns))

-- the place twice, and the numbers shown
abbrev pub shown : ℕ → Clause → List ℕ
shown place k = place ∷ place ∷ k.first ∷ k.second ∷ k.third ∷ []

-- 3; a twin's twin may be missing
unfoldable pub twin_line : ℕ → Clause → List ℕ
twin_line place k =
    cond (eqb k.second marker)
    (saying (ascii "refused 3 #: halfedge # has twin #, which has no twin") (shown place k))
    (of_three k.number
    (ascii "refused 3 #: halfedge # has twin #, past the # halfedges")
    (ascii "refused 3 #: halfedge # has twin #, which is itself")
    (ascii "refused 3 #: halfedge # has twin #, whose twin is #")
    (shown place k))

-- 4
unfoldable pub vertex_line : ℕ → Clause → List ℕ
vertex_line place k =
    of_three k.number
    (ascii "refused 4 #: corner # names vertex #, past the # points")
    (ascii "refused 4 #: corner # names vertex #, and so does the next corner, #")
    (ascii "refused 4 #: corner # has twin #, which names vertex # instead of #")
    (shown place k)

-- 5
unfoldable pub unused_line : ℕ → Clause → List ℕ
unused_line place k = saying (ascii "refused 5 #: vertex # is named by no corner") (shown place k)

-- 6
unfoldable pub edge_line : ℕ → Clause → List ℕ
edge_line place k =
    of_three k.number
    (ascii "refused 6 #: halfedge # has edge #, past the # edges")
    (ascii "refused 6 #: halfedge # has twin #, and edge # where its twin has edge #")
    (ascii "refused 6 #: halfedge # has edge #, and so has halfedge #, which is not its twin")
    (shown place k)

-- 7
unfoldable pub fan_line : ℕ → Clause → List ℕ
fan_line place k = saying (ascii "refused 7 #: vertex # has corners # and #, which are not joined") (shown place k)

-- a refusal by its number, 3 to 7, with its clause
unfoldable pub because : Verdict → Clause → List ℕ
because w k =
    cond (eqb w.number 3) (twin_line w.place k)
    (cond (eqb w.number 4) (vertex_line w.place k)
    (cond (eqb w.number 5) (unused_line w.place k)
    (cond (eqb w.number 6) (edge_line w.place k)
    (fan_line w.place k))))

-- an accepted cage, with its H, E, F, V and B
unfoldable pub accepted : List ℕ → List ℕ
accepted counts = saying (ascii "accepted: halfedges #, edges #, triangles #, vertices #, border edges #") counts
