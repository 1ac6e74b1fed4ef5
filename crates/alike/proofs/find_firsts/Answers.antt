-- `find_firsts` chains the items from zeros, and tells one group after the other.
use mathlib.Core.Path.{refl}
use lib.ListN.{get_or-replicate}
use Rattle.alike.proofs.find_firsts.Goals as goal

pub chain-requires : goal.chain-requires
chain-requires c = record { keyed = (c.requires.0, refl, c.requires.0.few); by_index = λ g l. get_or-replicate 4096 g 0 0 l }
