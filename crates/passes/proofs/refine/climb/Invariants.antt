use Rattle.tables.specs.Tables.{held}
use Rattle.passes.proofs.Climbed.{Stands}
use Rattle.passes.proofs.refine.climb.Given as goal

abbrev pub invariant-loop : goal.invariant-loop
invariant-loop l = Stands l.cage.weight l.cage.counts l.depth (held l.tables) l.cage.creases.now l.initial.points l.counter l.level l.points
