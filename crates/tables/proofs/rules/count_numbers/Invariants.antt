use Rattle.tables.specs.Internal.Tally.{Tallied}
use Rattle.tables.proofs.rules.count_numbers.Given as goal

abbrev pub invariant-loop-number : goal.invariant-loop-number
invariant-loop-number l = Tallied l.table l.number-index l.tally
