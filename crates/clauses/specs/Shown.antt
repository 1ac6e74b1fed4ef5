-- What the code's clause says: a clause by its number in the rule, with its numbers.
use Rattle.std.specs.Prelude.{ℕ, Option, Some, None, List, [], ◌∷◌, get_or}
use Rattle.halfedges.specs.Refusals.{Verdict, TWIN, VERTEX, UNUSED, EDGE, FAN}
use Rattle.clauses.specs.declared.Clause.{Clause as Kind}
use Rattle.clauses.specs.declared.Clause.TheVariants.{TwinPast, TwinItself, NotReturned, VertexPast, EndsAlike, TwinEndsDiffer, Unused, EdgePast, EdgeDiffers, EdgeShared, Apart}
use Rattle.clauses.specs.Clauses.{Clause, clause, no_clause}

-- what each kind of clause is called there
abbrev pub named : Kind → Clause
named (TwinPast t n) = clause 1 t n 0
named (TwinItself t) = clause 2 t 0 0
named (NotReturned t b) = clause 3 t b 0
named (VertexPast u v) = clause 1 u v 0
named (EndsAlike u n) = clause 2 u n 0
named (TwinEndsDiffer t s e) = clause 3 t s e
named (Unused v) = clause 1 v 0 0
named (EdgePast e n) = clause 1 e n 0
named (EdgeDiffers t e o) = clause 2 t e o
named (EdgeShared e g) = clause 3 e g 0
named (Apart g h) = clause 1 g h 0

-- and where there is none
abbrev pub shown : Option Kind → Clause
shown None = no_clause
shown (Some k) = named k

-- its number and the three numbers, one after another
abbrev pub numbers : Clause → List ℕ
numbers k = k.number ∷ k.first ∷ k.second ∷ k.third ∷ []

-- and the clause that any four numbers are
abbrev pub of_numbers : List ℕ → Clause
of_numbers ns = clause (get_or ns 0 0) (get_or ns 1 0) (get_or ns 2 0) (get_or ns 3 0)

-- the refusal of its rule, at a place
abbrev pub broken : Kind → ℕ → Verdict
broken (TwinPast t n) = TWIN
broken (TwinItself t) = TWIN
broken (NotReturned t b) = TWIN
broken (VertexPast u v) = VERTEX
broken (EndsAlike u n) = VERTEX
broken (TwinEndsDiffer t s e) = VERTEX
broken (Unused v) = UNUSED
broken (EdgePast e n) = EDGE
broken (EdgeDiffers t e o) = EDGE
broken (EdgeShared e g) = EDGE
broken (Apart g h) = FAN
