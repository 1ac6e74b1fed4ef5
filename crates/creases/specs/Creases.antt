-- Document 02, §6 "Edges that stay sharp": the crease table, and its levels.
use Rattle.std.specs.Prelude.{ℕ, zero, suc, ◌+◌, ◌-◌, ◌*◌, ◌/◌, Bool, cond, not, ◌&&◌, ◌||◌, List, eqb, ltb, length, replicate}
use Rattle.halfedges.specs.declared.table.HalfedgeTable.{HalfedgeTable}
use Rattle.laws.specs.Below.{tabulate, any}
use Rattle.halfedges.specs.Cage.{cell, border, E}
use Rattle.halfedges.specs.Counts.{Hs}

-- "a whole number 0 to 10 per edge"
abbrev pub most_crease : ℕ
most_crease = 10

-- "Form 1 files .. count as all zeros"
abbrev pub no_creases : List ℕ → List ℕ
no_creases twin = replicate (E twin) 0

-- 1 "also when the table's length is not E"
unfoldable pub misshapen_creases : List ℕ → List ℕ → Bool
misshapen_creases twin creases = not (eqb (length creases) (E twin))

-- a halfedge without twin carries edge e
unfoldable pub edge_on_border : List ℕ → List ℕ → ℕ → Bool
edge_on_border twin edge e = any (length edge) (λ h. border twin h && eqb (cell edge h) e)

-- 15 "the lowest edge out of range or on a border and not 0"
unfoldable pub bad_crease : List ℕ → List ℕ → List ℕ → ℕ → Bool
bad_crease twin edge creases e = ltb most_crease (cell creases e) || edge_on_border twin edge e && not (eqb (cell creases e) 0)

-- "The two halves of an edge carry the number less one, never below 0; new edges across a triangle carry 0"
unfoldable pub next_creases : ℕ → List ℕ → List ℕ
next_creases H creases =
    tabulate (2 * length creases + H) (λ i. cond (ltb i (2 * length creases)) (cell creases (i / 2) - 1) 0)

-- the crease table of level d of a cage with counts t
unfoldable pub creases_at : HalfedgeTable → List ℕ → ℕ → List ℕ
creases_at t creases zero = creases
creases_at t creases (suc d) = next_creases (Hs t d) (creases_at t creases d)
