-- `draw_part` asks the cage's edge whether it stays sharp.
use mathlib.Core.Path.{◌≡◌, sym, ◌∙◌}
use Rattle.halfedges.specs.Cage.{cell}
use Rattle.seams.specs.Internal.Seams.{sharp_at}
use Rattle.seams.proofs.Numbers.{part_below}
use Rattle.seams.proofs.Seaming.{seam_drawn, seam_none}
use Rattle.seams.proofs.seams.draw_part.Goals as goal
use Rattle.seams.proofs.seams.draw_part.Goals.{After-stays_sharp, Start}

module _ (a : After-stays_sharp) where
  abbrev s : Start
  s = (goal.at.After-stays_sharp a).Start

  sharp_is : sharp_at s.args.creases.now.numbers.now s.args.creases.now.level (cell s.args.level.now.edge.now s.args.halfedge) ≡ a.stays_sharp.result
  unfolding sharp_at
  sharp_is = sym a.stays_sharp.ensures

pub stays_sharp-requires : goal.stays_sharp-requires
stays_sharp-requires c =
    part_below c.args.creases.now.numbers.now c.args.creases.now.level _ c.requires.3

pub returns-then-stays_sharp : goal.returns-then-stays_sharp
returns-then-stays_sharp c =
    c.draw_at.ensures ∙ sym (seam_drawn _ _ _ _ _ _ _ _ _ (sharp_is (goal.at.returns-then-stays_sharp c).After-stays_sharp ∙ c.if-stays_sharp.true))

pub returns-else-stays_sharp : goal.returns-else-stays_sharp
returns-else-stays_sharp c = sym (seam_none _ _ _ _ _ _ _ _ _ (sharp_is (goal.at.returns-else-stays_sharp c).After-stays_sharp ∙ c.if-stays_sharp.false))
