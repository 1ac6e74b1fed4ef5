-- The cells passed stand in front.
use Rattle.laws.proofs.InFront.{Copying}
use Rattle.levels.proofs.refine.copy.Given as goal

abbrev pub invariant-loop-place : goal.invariant-loop-place
invariant-loop-place g l = Copying l.from l.initial.to l.to l.place
