-- `entry` answers by where the valence lies: at a number of its own, below the table, past it or in it.
use mathlib.Core.Path.{sym}
use native.Mathlib.Omega.{arith}
use Rattle.points.proofs.Shares.{below, past, listed}
use Rattle.points.proofs.weights.entry.Goals as goal

pub returns-in_default : goal.returns-in_default
returns-in_default c = sym (below c.args.corners (omega arith))

pub returns-in_default-2 : goal.returns-in_default-2
returns-in_default-2 c = sym (past c.args.corners (omega arith))

pub returns-in-2-to-32 : goal.returns-in-2-to-32
returns-in-2-to-32 c = listed c.args.corners (omega arith)
