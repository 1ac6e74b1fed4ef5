-- Document 02, §8 "Say why": what is printed for a file's bytes.
use Rattle.std.specs.Prelude.{ℕ, cond, List, eqb}
use Rattle.halfedges.specs.Refusals.{Verdict, when_done}
use Rattle.points.specs.Operations.{vertices}
use Rattle.clauses.specs.Clauses.{Clause, clause_at}
use Rattle.filechecks.specs.Contents.{cage_in}
use Rattle.text.specs.Replies.{Reply, answered, refused}
use Rattle.sentences.specs.Sentences.{because, accepted}
use Rattle.intake.specs.Intake.{check_file}

-- the clause for what the check of a file answers, by the cage in the file
unfoldable pub file_clause : List ℕ → Clause
file_clause f = let w = cage_in f in clause_at w.connectivity (vertices w.points) (check_file f).verdict

-- "the tool repeats number and place" where there is no clause
abbrev pub refused_for : Verdict → Clause → Reply
refused_for w k = cond (eqb k.number 0) (refused w) (record { status = 1; text = because w k })

-- a cage file, of either form, read and checked: accepted with its counts, or refused with the reason
unfoldable pub explaining : List ℕ → Reply
explaining f =
    let check = check_file f in
    when_done check.verdict (answered (accepted check.values)) (refused_for check.verdict (file_clause f))
