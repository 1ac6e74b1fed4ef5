-- The text that was lent has room for any reply.
use native.Mathlib.Omega.{arith}
use Rattle.text.proofs.Replying.{replied_as, replied_whole}
use Rattle.lister.proofs.listing.list.Goals as goal

pub returns-in-Ok : goal.returns-in-Ok
returns-in-Ok c =
    let ready = replied_whole (omega arith) (replied_as c.in-Ok.ensures.listed c.put_listing.ensures) in
    record { says = ready.0; prefix_len = ready.1 }

pub returns-in-Err : goal.returns-in-Err
returns-in-Err c =
    let ready = replied_whole (omega arith) (replied_as c.in-Err.ensures.listed c.put_refusal.ensures) in
    record { says = ready.0; prefix_len = ready.1 }
