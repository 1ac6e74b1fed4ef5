use Prim.Native.Nat.{◌-◌}
use mathlib.Core.Path.{◌≡◌}
use lib.ListN.{length}
use Rattle.halfedges.specs.Cage.{cell}
use Rattle.tables.proofs.Walks.{against, Walked}
use Rattle.tables.proofs.fans.fan_size.Given as goal

abbrev pub invariant-loop-other : goal.invariant-loop-other
invariant-loop-other l = Walked l.twin against l.halfedge l.size l.corner × (l.other ≡ cell l.twin l.corner)

abbrev pub decreases-loop-other : goal.decreases-loop-other
decreases-loop-other l = length l.twin - l.size
