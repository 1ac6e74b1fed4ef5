-- `fill` copies the cage and fills in its levels, which cover it.
use mathlib.Core.Path.{◌∙◌}
use Rattle.levels.specs.Internal.Filling.{tables_in_front}
use Rattle.levels.proofs.Copied.{cage_short, levels_over}
use Rattle.levels.proofs.refine.fill.Goals as goal

pub copy-requires : goal.copy-requires
copy-requires c = (cage_short c.requires).0

pub copy-requires-2 : goal.copy-requires-2
copy-requires-2 c = (cage_short c.requires).1

pub copy-requires-3 : goal.copy-requires-3
copy-requires-3 c = (cage_short c.requires).2

pub returns : goal.returns
unfolding tables_in_front
returns c =
    c.fill_levels.ensures ∙ rw (c.copy.ensures, c.copy-2.ensures, c.copy-3.ensures) (levels_over c.requires)
