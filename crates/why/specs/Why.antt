-- Document 02, §8 "Say why": what is answered for any tables.
use Rattle.std.specs.Prelude.{ℕ, List, ℤ, Result, Ok, Err, ⊤}
use Rattle.halfedges.specs.Refusals.{DONE, refused, Said}
use Rattle.tables.specs.Tables.{Tables}
use Rattle.points.specs.Operations.{vertices, check_creased}
use Rattle.clauses.specs.Clauses.{Clause, no_clause, clause_at}
use Rattle.clauses.specs.Shown.{named, broken}
use Rattle.why.specs.declared.Why.{Why}
use Rattle.why.specs.declared.Why.TheVariants.{Broken, Refused}

-- "Refusals: the check's own", each with its clause
unfoldable pub why_cage : Tables → List ℕ → List ℤ → Said Clause
why_cage c creases points =
    let verdict = (check_creased c creases points).verdict in
    record { verdict = verdict; values = clause_at c (vertices points) verdict }

-- what each case of the code's reason says
abbrev pub reason : Why → Said Clause
reason (Broken k p) = record { verdict = broken k p; values = named k }
reason (Refused r) = record { verdict = refused r; values = no_clause }

-- what the code's answer says
abbrev pub explains : Result ⊤ Why → Said Clause
explains (Ok a) = record { verdict = DONE; values = no_clause }
explains (Err w) = reason w
