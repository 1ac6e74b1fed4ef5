use Prim.Native.Nat.{◌+◌, ◌-◌}
use lib.ListN.{length}
use Rattle.clauses.proofs.Marking.{Going}
use Rattle.clauses.proofs.fans.mark.Given as goal

abbrev pub invariant-loop-turn : goal.invariant-loop-turn
invariant-loop-turn l = Going l.twin l.along l.corner l.initial.marks l.marks l.at l._turn (length l.twin + 1 - l._turn)
