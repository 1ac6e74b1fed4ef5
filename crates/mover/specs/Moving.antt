-- Document 02, §7 "Form 2 files": what the programs of the moves put out for a file's bytes.
use Rattle.std.specs.Prelude.{ℕ, List}
use Rattle.halfedges.specs.Refusals.{first, when_done}
use Rattle.cagefile.specs.declared.fields.Form.{Form}
use Rattle.cagefile.specs.Fields.{file}
use Rattle.filechecks.specs.Contents.{cage_in}
use Rattle.moves.specs.Moves.{move_checks}
use Rattle.text.specs.Replies.{Reply, answered, refused}

-- the file in the other form, or the refusal; 9 is none of a program's
unfoldable pub moving : Form → Form → List ℕ → Reply
moving from to f =
    let verdict = first (move_checks from to f) in
    when_done verdict (answered (file to (cage_in f))) (refused verdict)
