-- `short_levels` hands the room of the levels on.
use mathlib.Core.Path.{ap, ◌∙◌}
use Rattle.halfedges.specs.declared.table.Levels.{Levels}
use Rattle.halfedges.specs.Refusals.{first}
use Rattle.halfedges.specs.Counts.{levels}
use Rattle.tables.specs.Tables.{held}
use Rattle.levels.specs.Refining.{short_tables}
use Rattle.levels.proofs.refine.short_levels.Goals as goal

pub returns : goal.returns
unfolding levels
returns c =
    let x = held c.args.lent.now in
    c.short_table.ensures ∙ ap (λ (l : Levels). first (short_tables l.halfedge_room x)) c.levels-levels.ensures
