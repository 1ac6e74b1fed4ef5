use Rattle.tables.specs.Tables.{tables}
use Rattle.levels.proofs.Stages.{Reached}
use Rattle.levels.proofs.refine.fill_levels.Given as goal

abbrev pub invariant-loop-level : goal.invariant-loop-level
invariant-loop-level l = Reached l.initial.table l.depth (tables l.initial.twin l.initial.vert l.initial.edge) (tables l.twin l.vert l.edge) l.table l.at l._level
