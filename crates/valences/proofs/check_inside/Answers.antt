-- `check_inside` counts the corners from zeros, clears those on a border, and looks for a vertex with too many.
use borrow.Author.Rules.{rules}
use native.Mathlib.Omega.{arith}
use lib.ListN.{get_or-replicate}
use Rattle.valences.proofs.Counted.{counted-inside}
use Rattle.valences.proofs.check_inside.Goals as goal

pub count_numbers-requires : goal.count_numbers-requires
count_numbers-requires c = (c.requires.few, record { each = λ x l. get_or-replicate 2048 x 0 0 l })

pub clear_borders-requires : goal.clear_borders-requires
clear_borders-requires c =
    let p = c.requires in
    record { long = p.long; whole = p.whole; few = p.few; room = search rules; below = λ h l. omega (arith, p.below h l, p.room) }

pub first_of_many-requires : goal.first_of_many-requires
first_of_many-requires c =
    let p = c.requires in
    counted-inside _ _ (omega (arith, p.room)) (search rules) c.count_numbers.ensures c.clear_borders.ensures
