-- Document 01, "One level to the next": the count question asked and answered as text.
use Rattle.std.specs.Prelude.{ℕ, suc, cond, List, ◌++◌, eqb, length, Option, Some, None}
use Rattle.laws.specs.Below.{end_to_end}
use Rattle.halfedges.specs.declared.table.HalfedgeTable.{HalfedgeTable}
use Rattle.halfedges.specs.declared.table.Levels.{Levels}
use Rattle.halfedges.specs.Refusals.{when_done}
use Rattle.halfedges.specs.Counts.{count_question}
use Rattle.text.specs.declared.numbers.Number.{Number}
use Rattle.text.specs.Lines.{ascii, space, newline, line, level_words, room_line}
use Rattle.text.specs.Numbers.{number_at}
use Rattle.text.specs.Replies.{Reply, answered, refused, misused}
use Rattle.counter.specs.declared.question.Question.{Question}

-- what a number and where the text goes on lead to
abbrev pub with_number : Option Number → (ℕ → ℕ → Option Question) → Option Question
with_number None next = None
with_number (Some number) next = next number.value number.next

-- "H, E, V and a depth": four numbers on one line, one space between, and nothing after it
unfoldable pub asked : List ℕ → Option Question
asked text =
    with_number (number_at text 0 space) (λ h i.
    with_number (number_at text i space) (λ e j.
    with_number (number_at text j space) (λ v k.
    with_number (number_at text k newline) (λ depth end. cond (eqb end (length text)) (Some (record { table = record { halfedges = h; edges = e; vertices = v }; depth = depth })) None))))

-- what is said where no question was asked
abbrev pub usage : List ℕ
usage =
    ascii
    "ryebadger: a count question is H E V DEPTH on one line, each at most 18446744073709551615 in at most 20 digits"

-- the line of level k: its number, H, E, F and V
abbrev pub count_line : Levels → ℕ → List ℕ
count_line l k = line (level_words l k)

-- a line for each level, 0 to the depth, then the room
unfoldable pub count_lines : Levels → ℕ → List ℕ
count_lines l depth = end_to_end (suc depth) (count_line l) ++ room_line l.halfedge_room l.vertex_room l.edge_room

-- the answer to the count question, or its refusal
unfoldable pub counting : HalfedgeTable → ℕ → Reply
counting t depth =
    let answer = count_question t depth in
    when_done answer.verdict (answered (count_lines answer.values depth)) (refused answer.verdict)

abbrev pub reply_to : Option Question → Reply
reply_to None = misused usage
reply_to (Some question) = counting question.table question.depth

-- what is said to any bytes
unfoldable pub count_reply : List ℕ → Reply
count_reply text = reply_to (asked text)
