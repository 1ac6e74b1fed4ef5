-- `put_point` makes the three stores of its definition.
use mir.Facts.{to_z-of_z}
use Rattle.points.specs.Internal.Cells.{put}
use Rattle.points.proofs.cells.put_point.Goals as goal

pub returns : goal.returns
unfolding put
returns c = simp (to_z-of_z c.ranges.x, to_z-of_z c.ranges.y, to_z-of_z c.ranges.z)
