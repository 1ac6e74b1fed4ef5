-- What the check of the file answers is put as its opening.
use borrow.Author.Rules.{rules}
use Rattle.exporter.proofs.Outcomes.{file_small, accepted_opens, accepted_within, refused_opens, refused_within}
use Rattle.exporter.proofs.exporting.open.Goals as goal

pub put_opening-requires : goal.put_opening-requires
put_opening-requires c = (file_small _ _ c.in-Ok.ensures.result_value, search rules)

pub returns-in-Ok : goal.returns-in-Ok
returns-in-Ok c =
    let k = c.in-Ok.ensures in
    let o = c.put_opening.ensures in
    record { opens = accepted_opens _ _ k.result_value o k.taken; within = accepted_within _ _ k.result_value o (search rules) (search rules) (search rules) }

pub returns-in-Err : goal.returns-in-Err
returns-in-Err c =
    let p = c.put_refusal.ensures in
    record { opens = refused_opens _ _ c.in-Err.ensures.result_value p; within = refused_within p (search rules) }
