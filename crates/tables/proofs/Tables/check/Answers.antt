-- `check` answers by its checks.
use Rattle.halfedges.proofs.Told.{handed_on}
use Rattle.halfedges.proofs.Checks.{said_refused, said_done}
use Rattle.tables.specs.Check.{check_tables}
use Rattle.tables.proofs.Tables.check.Goals as goal

pub returns-in_err-check_for_depth : goal.returns-in_err-check_for_depth
unfolding check_tables
returns-in_err-check_for_depth c = rw (handed_on c.from_residual.ensures) (said_refused _ _ _ c.in_err-check_for_depth.ensures)

pub returns : goal.returns
unfolding check_tables
returns c = said_done _ _ c.in_ok-check_for_depth.ensures c.found.ensures
