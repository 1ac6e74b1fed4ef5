use Rattle.alike.proofs.Chains.{At}
use Rattle.alike.proofs.Walks.{Gone}
use Rattle.alike.proofs.tell.Given as goal

abbrev pub invariant-loop-end : goal.invariant-loop-end
invariant-loop-end l =
    At l.groups l.group l.end × Gone l.groups l.labels l.group l.initial.first l.end l.first

abbrev pub decreases-loop-end : goal.decreases-loop-end
decreases-loop-end l = l.end
