-- `add_fours` takes one step of its definition a turn, of a triangle of the level before; the sums so far leave room for it.
use mathlib.Core.Path.{sym, ap, ◌∙◌, subst}
use native.Mathlib.Omega.{arith}
use Rattle.laws.specs.Internal.Steps.{steps}
use Rattle.laws.proofs.Steps.{steps_none, steps_on, steps_end}
use Rattle.points.proofs.Holding.{holds_own}
use Rattle.spokes.specs.Internal.Fours.{add_four, AddsFour, four_spokes}
use Rattle.spokes.proofs.FourSpokes.{fours_adds}
use Rattle.spokes.proofs.fours.add_fours.Goals as goal

pub loop-triangle-init : goal.loop-triangle-init
loop-triangle-init c = sym (steps_none _ _)

pub add_four-requires : goal.add_four-requires
add_four-requires c =
    let gathers = c.requires.0 in
    let vert = c.args.vert.now in
    let n = c.args.vertices in
    let l = c.args.points.now in
    let g = c.loop-triangle.triangle in
    subst (AddsFour n c.four_of-four.result) (sym c.loop-triangle.invariant)
    (subst (λ f. AddsFour n f (steps g (four_spokes vert n) l)) (sym c.four_of-four.ensures)
    (fours_adds vert n gathers.cornered c.args.before c.requires.1 l gathers.laid.room _ (holds_own n l) gathers.laid gathers.laid.in_range gathers.cleared g (omega arith)))

pub loop-triangle-preserved : goal.loop-triangle-preserved
unfolding four_spokes
loop-triangle-preserved c =
    let n = c.args.vertices in
    steps_on _ _ c.loop-triangle.triangle c.loop-triangle.invariant (c.add_four.ensures ∙ ap (λ f. add_four n f c.loop-triangle.points) c.four_of-four.ensures)

pub returns : goal.returns
returns c = steps_end _ _ c.loop-triangle.invariant (omega arith)
