-- `join` puts what it is handed where the rows have it.
use mathlib.Core.Path.{refl}
use Rattle.splitting.specs.Internal.InPlace.{joined}
use Rattle.splitting.proofs.split.join.Goals as goal

pub returns : goal.returns
unfolding joined
returns c = refl
