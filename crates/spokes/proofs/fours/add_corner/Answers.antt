-- `add_corner` adds two points, the second to what the first left.
use Prim.Native.Nat.{◌+◌, ◌*◌}
use mathlib.Core.Path.{ap₂, ◌∙◌}
use native.Mathlib.Omega.{arith}
use Rattle.points.specs.Operations.{most_coordinate}
use Rattle.points.specs.Internal.Relied.{most_corners}
use Rattle.spokes.specs.Internal.Sums.{add_to}
use Rattle.spokes.specs.Internal.Fours.{add_corner}
use Rattle.spokes.proofs.CornerAdded.{adds_within, adds_second}
use Rattle.spokes.proofs.fours.add_corner.Goals as goal

pub add_to-requires : goal.add_to-requires
add_to-requires c =
    adds_within _ _ (most_coordinate * most_corners + most_coordinate * 8) most_coordinate _ _ c.requires.in_x c.requires.near.second c.requires.within (omega arith)

pub add_to-requires-2 : goal.add_to-requires-2
add_to-requires-2 c =
    rw (c.sum_points-sum.ensures, c.add_to.ensures)
    (adds_second _ _ _ (most_coordinate * most_corners + most_coordinate * 8) _ _ _ _ c.requires.in_x c.requires.in_before c.requires.near c.requires.within (omega arith))

pub returns : goal.returns
unfolding add_corner
returns c =
    c.add_to-2.ensures ∙ ap₂ (add_to c.args.vertices c.args.before) c.sum_points-sum.ensures c.add_to.ensures
