use Rattle.sentences.proofs.Filling.{Filled}
use Rattle.sentences.proofs.put_saying.Given as goal

abbrev pub invariant-loop-byte : goal.invariant-loop-byte
invariant-loop-byte l = Filled l.initial.out l.text l.numbers l.out l.at l.used l.byte-index
