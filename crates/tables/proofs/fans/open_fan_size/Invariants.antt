use Prim.Native.Nat.{ℕ, ◌-◌}
use mathlib.Core.Path.{◌≡◌}
use lib.ListN.{length}
use Rattle.tables.specs.Fans.{link}
use Rattle.tables.proofs.Walks.{along, Walked}
use Rattle.tables.proofs.fans.open_fan_size.Given as goal

abbrev pub invariant-loop-other : goal.invariant-loop-other
invariant-loop-other l = (corner : ℕ) × Walked l.twin along l.first l.size corner × (l.other ≡ link l.twin corner)

abbrev pub decreases-loop-other : goal.decreases-loop-other
decreases-loop-other l = length l.twin - l.size
