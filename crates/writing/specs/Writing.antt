-- Document 01, "The cage file", and document 02, §7 "Form 2 files": writing.
use Rattle.std.specs.Prelude.{ℕ, List, [], ◌∷◌, ◌++◌, ℤ, Result, length}
use Rattle.halfedges.specs.declared.refusal.Refusal.{Refusal}
use Rattle.halfedges.specs.Refusals.{Verdict, short, first, Said, said, answered, filled}
use Rattle.tables.specs.Tables.{Tables, held}
use Rattle.creases.specs.Creases.{no_creases}
use Rattle.points.specs.declared.weights.Weight.{Weight}
use Rattle.points.specs.declared.weights.Weight.TheVariants.{Short}
use Rattle.points.specs.Operations.{cage_checks, creased_checks}
use Rattle.cage.specs.declared.Cage.{Cage as Slices}
use Rattle.cagefile.specs.declared.fields.Form.{Form}
use Rattle.cagefile.specs.declared.fields.Form.TheVariants.{One, Two}
use Rattle.cagefile.specs.Fields.{Cage, file}

-- "Writing form 1 takes no creases and no weight": a cage that counts as all zeros
abbrev pub plain : Tables → List ℤ → Cage
plain c points = record { connectivity = c; points = points; creases = no_creases c.twin; weight = Short }

-- 1 to 8, in form 2 with the creases
unfoldable pub write_checks : Form → Cage → List Verdict
write_checks One w = cage_checks w.connectivity w.points 0
write_checks Two w = creased_checks w.connectivity w.creases w.points 0

-- "Writing gives 1 to 9"
unfoldable pub write_verdict : Form → Cage → List ℕ → Verdict
write_verdict form w lent = first (write_checks form w ++ (short 5 (length (file form w)) (length lent) ∷ []))

pub record Written : Type 0 where
  pub answer : Said ℕ
  pub file : List ℕ

-- a file's bytes where the verdict is done: "writing returns the file's length"; "Bytes past the file are untouched"
unfoldable pub written : Verdict → List ℕ → List ℕ → Written
written verdict bytes lent = record { answer = said verdict (length bytes) 0; file = filled verdict bytes lent }

unfoldable pub write_file : Form → Cage → List ℕ → Written
write_file form w lent = written (write_verdict form w lent) (file form w) lent

-- a cage as the code has it, with a weight
abbrev pub weighted : Slices → Weight → Cage
weighted c w = record { connectivity = held c.tables; points = c.points.now; creases = c.creases.now; weight = w }

-- what the code's answer says
abbrev pub wrote : Result ℕ Refusal → Said ℕ
wrote = answered (λ length. length) 0
