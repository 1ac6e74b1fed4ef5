-- What a program says to its input: a status and a text.
use Rattle.std.specs.Prelude.{ℕ, ◌≡◌, List, [], ◌∷◌, length}
use Rattle.laws.specs.Parts.{in_front}
use Rattle.halfedges.specs.Refusals.{Verdict}
use Rattle.text.specs.declared.replies.Status.{Status}
use Rattle.text.specs.declared.replies.Status.TheVariants.{Answered, Refused, Misused, Failed}
use Rattle.text.specs.declared.replies.Written.{Written}
use Rattle.text.specs.Lines.{ascii, decimal, line}

pub record Reply : Type 0 where
  pub status : ℕ
  pub text : List ℕ

-- status 0: an answer
abbrev pub answered : List ℕ → Reply
answered text = record { status = 0; text = text }

-- status 1: "A refusal prints only one line: `refused`, number, place"
unfoldable pub refused : Verdict → Reply
refused v = record { status = 1; text = line (ascii "refused" ∷ decimal v.number ∷ decimal v.place ∷ []) }

-- status 2: no question was asked, and a line says what one looks like
abbrev pub misused : List ℕ → Reply
misused message = record { status = 2; text = line (message ∷ []) }

-- the number of a status: an answer, a refusal, no question, a stream that failed
abbrev pub status_number : Status → ℕ
status_number Answered = 0
status_number Refused = 1
status_number Misused = 2
status_number Failed = 3

-- a reply was given: its text stands in front of what the lent text held, and its status and length are told
pub record Says (reply : Reply) (before after : List ℕ) (told : Written) : Type 0 where
  pub status : status_number told.status ≡ reply.status
  pub text : after ≡ in_front reply.text before
  pub ends : told.length ≡ length reply.text
