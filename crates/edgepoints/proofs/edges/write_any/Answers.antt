-- `write_any` takes three steps, each in what the one before left.
use Rattle.edgepoints.proofs.Writes.{asked_two, asked_three, turns_are}
use Rattle.edgepoints.proofs.edges.write_any.Goals as goal

pub step_edge-requires-2 : goal.step_edge-requires-2
step_edge-requires-2 c = asked_two c.requires c.step_edge.ensures

pub step_edge-requires-3 : goal.step_edge-requires-3
step_edge-requires-3 c = asked_three c.requires c.step_edge.ensures c.step_edge-2.ensures

pub returns : goal.returns
returns c = turns_are c.requires c.step_edge.ensures c.step_edge-2.ensures c.step_edge-3.ensures
