-- `join_twins` counts up what is across and in the middle.
use Rattle.splitting.specs.Internal.InPlace.{join_twins}
use Rattle.splitting.proofs.Triangles.{count_one, count_three}
use Rattle.splitting.proofs.split.join_twins.Goals as goal

pub returns : goal.returns
unfolding join_twins
returns c = rw (c.join.ensures, count_one _ _ c.count_up-across.ensures, count_three _ c.count_up-middle.ensures)
