-- `put` makes four stores of three.
use Rattle.splitting.specs.Internal.InPlace.{set_split}
use Rattle.splitting.proofs.split.put.Goals as goal

pub returns : goal.returns
unfolding set_split
returns c =
    rw (c.store-4.ensures, c.store-3.ensures, c.store-2.ensures, c.store.ensures)
