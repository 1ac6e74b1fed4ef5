-- Document 02, §7 "Form 2 files": the move from form 1, and the move back.
use Rattle.std.specs.Prelude.{ℕ, Bool, false, ◌||◌, List, [], ◌∷◌, ◌++◌, ltb, length}
use Rattle.laws.specs.Below.{any}
use Rattle.halfedges.specs.Cage.{cell}
use Rattle.halfedges.specs.Refusals.{Verdict, NOT_OLD, given, short, first}
use Rattle.points.specs.declared.weights.Weight.{Weight}
use Rattle.points.specs.Weights.{weight_number}
use Rattle.points.specs.Operations.{creased_checks}
use Rattle.cagefile.specs.declared.fields.Form.{Form}
use Rattle.cagefile.specs.declared.fields.Form.TheVariants.{One, Two}
use Rattle.cagefile.specs.Fields.{Cage, file}
use Rattle.filechecks.specs.Contents.{cage_in}
use Rattle.filechecks.specs.FileChecks.{file_checks}
use Rattle.writing.specs.Writing.{Written, written}

-- a crease number or the weight is not 0
unfoldable pub numbered : List ℕ → Weight → Bool
numbered creases weight = any (length creases) (λ e. ltb 0 (cell creases e)) || ltb 0 (weight_number weight)

-- 16: "The move back exists exactly for cages whose crease numbers and weight are all 0"
abbrev pub not_old : Form → Cage → Bool
not_old One w = numbered w.creases w.weight
not_old Two w = false

-- "the cage checks, 16 .. for the move back"
unfoldable pub cage_moves : Form → Cage → List Verdict
cage_moves to w = creased_checks w.connectivity w.creases w.points 0 ++ (given (not_old to w) NOT_OLD ∷ [])

-- "a move gives reading's but 9", of a file of the form that it starts from, then those
unfoldable pub move_checks : Form → Form → List ℕ → List Verdict
move_checks from to f = file_checks (from ∷ []) f ++ cage_moves to (cage_in f)

-- "then 9 at place 5"
unfoldable pub move_room : Form → Cage → List ℕ → List Verdict
move_room to w lent = short 5 (length (file to w)) (length lent) ∷ []

unfoldable pub move_verdict : Form → Form → List ℕ → List ℕ → Verdict
move_verdict from to f lent = first (move_checks from to f ++ move_room to (cage_in f) lent)

-- the file of the same cage in the other form; done returns its length
unfoldable pub move : Form → Form → List ℕ → List ℕ → Written
move from to f lent = written (move_verdict from to f lent) (file to (cage_in f)) lent
