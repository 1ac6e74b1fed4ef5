-- The text that was lent has room for any reply.
use native.Mathlib.Omega.{arith}
use Rattle.text.proofs.Replying.{replied_whole}
use Rattle.counter.proofs.counting.count.Goals as goal

pub returns : goal.returns
returns c =
    let ready = replied_whole (omega arith) c.count_into.ensures in
    record { says = ready.0; prefix_len = ready.1 }
