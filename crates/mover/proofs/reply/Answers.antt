-- The lent file has room for any, so the reply is that of the move.
use borrow.Author.Rules.{rules}
use Rattle.mover.proofs.Outcomes.{moved_says, says_counts}
use Rattle.mover.proofs.reply.Goals as goal

pub returns : goal.returns
returns c =
    let says = moved_says _ _ _ _ _ _ (search rules) c.put_reply.result c.move_file-moved.result c.move_file-moved.ensures c.put_reply.ensures.replied c.put_reply.ensures.value in
    record { says = says; prefix_len = says_counts says }
