-- A text that is no question gets the line that says what one looks like, any other the answer to its question.
use mathlib.Core.Path.{ap}
use native.Mathlib.Omega.{arith}
use Rattle.text.proofs.Replying.{replied_within, replied_as}
use Rattle.counter.specs.Counting.{reply_to, count_reply}
use Rattle.counter.proofs.counting.count_into.Goals as goal

pub returns-in-Some : goal.returns-in-Some
unfolding count_reply
returns-in-Some c = replied_as (ap reply_to c.in-Some.ensures) c.put_counting.ensures

pub returns-in-None : goal.returns-in-None
unfolding count_reply
returns-in-None c = replied_as (ap reply_to c.in-None.ensures) (replied_within (omega arith) c.put_misuse.ensures)
