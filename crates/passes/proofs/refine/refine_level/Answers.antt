-- `refine_level` adds the creases inside where the level has some left.
use mathlib.Core.Path.{sym, ◌∙◌}
use Rattle.tables.specs.Tables.{held}
use Rattle.passes.proofs.Drawn.{seams_asked, seams_drawn, none_left}
use Rattle.passes.proofs.refine.refine_level.Goals as goal

pub count_and_draw-requires : goal.count_and_draw-requires
count_and_draw-requires c =
    let a = c.args in
    (c.requires.count, seams_asked a.cage.now.weight _ a.cage.now.counts a.cage.now.creases.now a.level (held a.tables.now) a.points.now c.requires c.smooth_level.ensures)

pub returns-then-any_sharp : goal.returns-then-any_sharp
returns-then-any_sharp c =
    let a = c.args in
    seams_drawn a.cage.now.weight _ a.cage.now.counts a.cage.now.creases.now a.level (held a.tables.now) a.points.now c.requires c.smooth_level.ensures c.count_and_draw.ensures

pub returns-else-any_sharp : goal.returns-else-any_sharp
returns-else-any_sharp c =
    let a = c.args in
    none_left a.cage.now.weight _ a.cage.now.counts a.cage.now.creases.now a.level (held a.tables.now) a.points.now c.requires c.smooth_level.ensures (sym c.any_sharp.ensures ∙ c.if-any_sharp.false)
