-- `check_fans` keeps a corner of each vertex and counts the corners from zeros; every vertex has a cell.
use native.Mathlib.Omega.{arith}
use lib.ListN.{get_or-replicate}
use Rattle.tables.proofs.fans.check_fans.Goals as goal

pub keep_corners-requires : goal.keep_corners-requires
keep_corners-requires c = (omega arith, λ h l. omega (arith, c.requires.0.placed.below h (omega arith)))

pub count_numbers-requires : goal.count_numbers-requires
count_numbers-requires c = (omega arith, record { each = λ x l. get_or-replicate 2048 x 0 0 l })

pub first_not_one_fan-requires : goal.first_not_one_fan-requires
first_not_one_fan-requires c =
    (c.requires.0, record { corner = c.keep_corners.ensures; room = omega (arith, c.keep_corners.auto.kept); tally = record { counted = c.count_numbers.ensures; room = omega (arith, c.count_numbers.auto.tally) } })
