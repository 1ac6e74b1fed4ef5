-- Document 01, "The level lister", as every program does it that takes a cage file, of either form: the file is read and the cage checked,
-- and a refusal is one line.
use Rattle.std.specs.Prelude.{ℕ, List, ℤ, replicate}
use Rattle.halfedges.specs.Refusals.{Said, first, when_done}
use Rattle.tables.specs.Tables.{Tables}
use Rattle.points.specs.Operations.{check_creased}
use Rattle.filechecks.specs.Contents.{cage_in}
use Rattle.filechecks.specs.FileChecks.{file_checks, both}
use Rattle.text.specs.Replies.{Reply, answered, refused}

-- "Reads one cage file .., checks the cage": what the check answers, or the refusal of reading
unfoldable pub check_file : List ℕ → Said (List ℕ)
check_file f =
    let verdict = first (file_checks both f) in
    let w = cage_in f in
    when_done verdict (check_creased w.connectivity w.creases w.points) (record { verdict = verdict; values = replicate 5 0 })

-- the answer that an accepted cage gets, or the refusal
unfoldable pub file_reply : (Tables → List ℤ → List ℕ) → List ℕ → Reply
file_reply answer f =
    let verdict = (check_file f).verdict in
    when_done verdict (answered (answer (cage_in f).connectivity (cage_in f).points)) (refused verdict)
