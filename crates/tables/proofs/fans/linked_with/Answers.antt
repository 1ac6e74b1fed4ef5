-- `linked_with` reads the twin of the halfedge before, which is in the table.
use Prim.Native.Nat.{◌<◌}
use mathlib.Core.Path.{ap}
use native.Mathlib.Omega.{arith}
use lib.ListN.{length}
use Rattle.halfedges.specs.Cage.{cell}
use Rattle.halfedges.proofs.Triangle.{prev_below}
use Rattle.tables.proofs.fans.linked_with.Goals as goal
use Rattle.tables.proofs.fans.linked_with.Goals.{After-previous-previous}

inside : (c : After-previous-previous) → c.previous-previous.result < length c.args.twin.now
inside c = omega (arith, c.previous-previous.ensures, prev_below c.requires.0.whole c.requires.1)

pub offset_bounds-twin-previous : goal.offset_bounds-twin-previous
offset_bounds-twin-previous c = omega (arith, inside c)

pub bounds-twin-previous : goal.bounds-twin-previous
bounds-twin-previous c = inside (goal.at.bounds-twin-previous c).After-previous-previous

pub returns : goal.returns
returns c = ap (cell c.args.twin.now) c.previous-previous.ensures
