use Rattle.alike.proofs.Walks.{Groups}
use Rattle.alike.proofs.tell_groups.Given as goal

abbrev pub invariant-loop-group : goal.invariant-loop-group
invariant-loop-group l =
    Groups l.groups l.labels l.group l.first
