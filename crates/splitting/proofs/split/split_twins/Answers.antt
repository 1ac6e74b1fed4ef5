-- `split_twins` joins what `any_halves` answers of its three twins.
use Rattle.splitting.specs.Internal.InPlace.{split_twins}
use Rattle.splitting.proofs.split.split_twins.Goals as goal

pub returns : goal.returns
unfolding split_twins
returns c = rw (c.join_twins.ensures, c.any_halves-a.ensures, c.any_halves-b.ensures, c.any_halves-c.ensures)
