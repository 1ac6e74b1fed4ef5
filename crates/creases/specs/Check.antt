-- What checking the tables with their creases answers.
use Rattle.std.specs.Prelude.{ℕ, List, [], ◌∷◌}
use Rattle.halfedges.specs.Cage.{E}
use Rattle.halfedges.specs.Refusals.{Verdict, SHAPE, CREASE, given, given_at}
use Rattle.tables.specs.Tables.{Tables}
use Rattle.tables.specs.Check.{rules_with, checks_then}
use Rattle.creases.specs.Creases.{misshapen_creases, bad_crease}

-- 1, "after 3 and before 4"
abbrev pub length_check : Tables → List ℕ → List Verdict
length_check c creases = given (misshapen_creases c.twin creases) SHAPE ∷ []

-- 15, "after 6 and before 7"
abbrev pub crease_check : Tables → List ℕ → List Verdict
crease_check c creases = given_at (E c.twin) (bad_crease c.twin c.edge creases) CREASE ∷ []

-- rules 3 to 7 in number order, with those
unfoldable pub creased_rules : Tables → List ℕ → ℕ → List Verdict
creased_rules c creases v = rules_with (length_check c creases) (crease_check c creases) c v

-- 1 to 7, with 15
unfoldable pub creased_table_checks : Tables → List ℕ → ℕ → ℕ → List Verdict
creased_table_checks c creases v depth = checks_then (creased_rules c creases v) c v depth
