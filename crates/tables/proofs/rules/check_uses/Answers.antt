-- `check_uses` counts the corners from zeros, and looks for a vertex that has none.
use native.Mathlib.Omega.{arith}
use lib.ListN.{get_or-replicate}
use Rattle.tables.proofs.rules.check_uses.Goals as goal

pub count_numbers-requires : goal.count_numbers-requires
count_numbers-requires c = (omega arith, record { each = λ x l. get_or-replicate 2048 x 0 0 l })
