-- `add_point` adds the point that it reads.
use mathlib.Core.Path.{sym, ap, ◌∙◌, subst}
use Rattle.spokes.specs.Internal.Sums.{add_to, AddsTo}
use Rattle.spokes.specs.Internal.Spokes.{add_point}
use Rattle.spokes.proofs.spokes.add_point.Goals as goal

pub add_to-requires : goal.add_to-requires
add_to-requires c =
    subst (λ p. AddsTo c.args.vertices c.args.a p c.args.points.now) (sym c.point_of-at_b.ensures) c.requires.to

pub returns : goal.returns
unfolding add_point
returns c =
    c.add_to.ensures ∙ ap (λ p. add_to c.args.vertices c.args.a p c.args.points.now) c.point_of-at_b.ensures
