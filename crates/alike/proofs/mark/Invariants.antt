use Rattle.alike.proofs.Chains.{At}
use Rattle.alike.proofs.Walks.{Lower}
use Rattle.alike.proofs.mark.Given as goal

abbrev pub invariant-loop-end : goal.invariant-loop-end
invariant-loop-end l =
    At l.groups l.group l.end × Lower l.groups l.labels l.group l.end l.marks

abbrev pub decreases-loop-end : goal.decreases-loop-end
decreases-loop-end l = l.end
