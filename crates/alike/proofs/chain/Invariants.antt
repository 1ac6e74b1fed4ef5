use Rattle.alike.specs.Internal.Alike.{Chained}
use Rattle.alike.proofs.chain.Given as goal

abbrev pub invariant-loop-item : goal.invariant-loop-item
invariant-loop-item l =
    Chained l.groups l.item l.heads l.before
