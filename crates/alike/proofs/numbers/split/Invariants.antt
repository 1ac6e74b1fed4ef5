use Rattle.alike.specs.Internal.Narrowed.{Halved}
use Rattle.alike.proofs.numbers.split.Given as goal

abbrev pub invariant-loop-place : goal.invariant-loop-place
invariant-loop-place l =
    Halved l.numbers l.place l.upper l.low
