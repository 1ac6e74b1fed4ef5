-- The text that was lent has room for any reply.
use mathlib.Core.Path.{refl}
use native.Mathlib.Omega.{arith}
use Rattle.text.proofs.Replying.{replied_as, replied_whole}
use Rattle.explainer.proofs.Outcomes.{accepted_explained, refused_explained}
use Rattle.explainer.proofs.explaining.explain.Goals as goal

pub returns-in-Ok : goal.returns-in-Ok
returns-in-Ok c =
    let ready = replied_whole (omega arith) (replied_as (accepted_explained _ _ c.in-Ok.ensures) (record { put = c.put_accepted.ensures; status = refl })) in
    record { says = ready.0; prefix_len = ready.1 }

pub returns-in-Err : goal.returns-in-Err
returns-in-Err c =
    let ready = replied_whole (omega arith) (replied_as (refused_explained _ _ _ c.in-Err.ensures c.find_clause.ensures) c.put_refused.ensures) in
    record { says = ready.0; prefix_len = ready.1 }
