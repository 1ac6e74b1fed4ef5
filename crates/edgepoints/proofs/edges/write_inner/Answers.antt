-- `write_inner` takes three steps, each in what the one before left.
use Rattle.edgepoints.proofs.Writes.{asked_two, asked_three, turns_are}
use Rattle.edgepoints.proofs.edges.write_inner.Goals as goal

pub step_inner-requires-2 : goal.step_inner-requires-2
step_inner-requires-2 c = asked_two c.requires c.step_inner.ensures

pub step_inner-requires-3 : goal.step_inner-requires-3
step_inner-requires-3 c = asked_three c.requires c.step_inner.ensures c.step_inner-2.ensures

pub returns : goal.returns
returns c = turns_are c.requires c.step_inner.ensures c.step_inner-2.ensures c.step_inner-3.ensures
