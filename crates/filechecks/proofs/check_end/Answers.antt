-- `check_end` looks at the end field, and then whether anything stands past it.
use Prim.Native.Nat.{◌+◌}
use mathlib.Core.Path.{refl}
use native.Mathlib.Nat.{add-zero}
use borrow.Author.Tests.{lt-ltb, le-ltb}
use Rattle.halfedges.proofs.Told.{handed_on}
use Rattle.halfedges.proofs.Checks.{stops_before}
use Rattle.filechecks.specs.FileChecks.{fields_checks}
use Rattle.filechecks.proofs.LastCheck.{last_given, last_passes}
use Rattle.filechecks.proofs.check_end.Goals as goal

pub returns-in_err-check_field : goal.returns-in_err-check_field
unfolding fields_checks
returns-in_err-check_field c = rw (handed_on c.from_residual.ensures) (stops_before _ _ _ c.in_err-check_field.ensures)

pub returns-then-extra_at-file : goal.returns-then-extra_at-file
unfolding fields_checks
returns-then-extra_at-file c = rw (add-zero (c.args.at + 3)) (last_given _ c.in_ok-check_field.ensures _ refl (lt-ltb _ _ c.if-extra_at-file.true))

pub returns : goal.returns
unfolding fields_checks
returns c = rw (add-zero (c.args.at + 3)) (last_passes _ c.in_ok-check_field.ensures _ (le-ltb _ _ c.if-extra_at-file.false))
