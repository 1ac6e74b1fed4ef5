-- `store` makes three stores.
use mathlib.Core.Path.{refl}
use Rattle.splitting.specs.Internal.InPlace.{set_three}
use Rattle.splitting.proofs.split.store.Goals as goal

pub returns : goal.returns
unfolding set_three
returns c = refl
