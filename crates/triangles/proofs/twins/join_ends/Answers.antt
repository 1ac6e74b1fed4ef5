-- `join_ends` chains the halfedges by where they start, from zeros, and joins one vertex after the other.
use mathlib.Core.Path.{refl}
use lib.ListN.{get_or-replicate}
use Rattle.triangles.proofs.Doubles.{ends_keyed}
use Rattle.triangles.proofs.twins.join_ends.Goals as goal

pub chain-requires : goal.chain-requires
chain-requires c = record { keyed = (ends_keyed c.requires.0, refl, c.requires.0.whole.few); by_index = λ g l. get_or-replicate 4096 g 0 0 l }
