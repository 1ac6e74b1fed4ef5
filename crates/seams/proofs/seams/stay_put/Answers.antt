-- `stay_put` stores a point in range as it is.
use mathlib.Core.Path.{◌∙◌}
use native.Mathlib.Omega.{arith}
use Rattle.points.specs.Internal.Cells.{value}
use Rattle.points.proofs.Only.{put_same, near_stored}
use Rattle.seams.specs.Internal.Seams.{stay}
use Rattle.seams.proofs.seams.stay_put.Goals as goal

pub returns : goal.returns
unfolding stay
returns c =
    let p = c.args.corner.point in
    let near = c.requires.1 in
    c.put_point.ensures ∙ put_same _ _ (value p) _ (near_stored p near 0 (omega arith)) (near_stored p near 1 (omega arith)) (near_stored p near 2 (omega arith))
