-- With the rest of the digits the value of those that were passed makes the number that all make.
use Rattle.std.proofs.Common.{◌≡◌, ◌^◌, ◌<◌, drop}
use Rattle.text.specs.Numbers.{worth}
use Rattle.text.proofs.numbers.worth.Given as goal

abbrev pub invariant-loop-byte : goal.invariant-loop-byte
invariant-loop-byte l = record { fits : l.value < 2 ^ 64; same : worth l.value (drop l.byte-index l.digits) ≡ worth 0 l.digits }
