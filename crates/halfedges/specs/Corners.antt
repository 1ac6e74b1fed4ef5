-- Document 01, "The cage": the corner question.
use Rattle.std.specs.Prelude.{ℕ, ◌+◌, ◌*◌, ◌/◌, ◌%◌, Bool, not, ◌||◌, List, [], ◌∷◌, Result, eqb, leb, length}
use Rattle.halfedges.specs.declared.refusal.Refusal.{Refusal}
use Rattle.halfedges.specs.Cage.{cell}
use Rattle.halfedges.specs.Refusals.{SHAPE, given, Said, said, answered}

-- "a triangle's three corner numbers together, as stored"
abbrev pub corners : List ℕ → ℕ → List ℕ
corners vert triangle = cell vert (3 * triangle) ∷ cell vert (3 * triangle + 1) ∷ cell vert (3 * triangle + 2) ∷ []

abbrev pub no_corners : List ℕ
no_corners = 0 ∷ 0 ∷ 0 ∷ []

-- 1 "corner question: table length 0 or no multiple of 3, or triangle past the end"
unfoldable pub corner_shape : List ℕ → ℕ → Bool
corner_shape vert triangle = eqb (length vert) 0 || not (eqb (length vert % 3) 0) || leb (length vert / 3) triangle

-- "The corner question takes a VERT table and a triangle number"
unfoldable pub corner_question : List ℕ → ℕ → Said (List ℕ)
corner_question vert triangle = said (given (corner_shape vert triangle) SHAPE) (corners vert triangle) no_corners

-- what the code's answer says
abbrev pub cornered : Result (List ℕ) Refusal → Said (List ℕ)
cornered = answered (λ c. c) no_corners
