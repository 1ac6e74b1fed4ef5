-- An accepted question is answered by its counts, any other by its refusal.
use mathlib.Core.Path.{refl}
use native.Mathlib.Omega.{arith}
use Rattle.text.proofs.Replying.{replied_within, replied_as}
use Rattle.counter.proofs.Outcomes.{refused_reply, answered_reply, depth_kept}
use Rattle.counter.proofs.counting.put_counting.Goals as goal

pub put_levels-requires : goal.put_levels-requires
put_levels-requires c = (depth_kept _ _ c.in-Ok.ensures, c.requires)

pub returns-in-Ok : goal.returns-in-Ok
returns-in-Ok c = replied_as (answered_reply _ _ c.in-Ok.ensures) (record { put = c.put_levels.ensures; status = refl })

pub returns-in-Err : goal.returns-in-Err
returns-in-Err c = replied_as (refused_reply _ _ _ c.in-Err.ensures) (replied_within (omega arith) c.put_refusal.ensures)
