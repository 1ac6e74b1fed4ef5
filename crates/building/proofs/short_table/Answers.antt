-- `short_table` goes through the two tables in order.
use Rattle.building.proofs.Given.{twin_short, edge_short, both_roomy}
use Rattle.building.proofs.short_table.Goals as goal

pub returns-then-twin-room : goal.returns-then-twin-room
returns-then-twin-room c = twin_short _ _ _ c.if-twin-room.true

pub returns-then-edge-room : goal.returns-then-edge-room
returns-then-edge-room c = edge_short _ _ _ c.if-twin-room.false c.if-edge-room.true

pub returns : goal.returns
returns c = both_roomy _ _ _ c.if-twin-room.false c.if-edge-room.false
