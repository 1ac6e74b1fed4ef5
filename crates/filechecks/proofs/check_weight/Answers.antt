-- `check_weight` looks at the field, and then at its byte, which is there where the field is whole.
use mathlib.Core.Path.{refl, sym}
use native.Mathlib.Omega.{arith}
use borrow.Author.Tests.{lt-ltb, le-ltb}
use Rattle.halfedges.proofs.Told.{handed_on}
use Rattle.halfedges.proofs.Checks.{stops_before}
use Rattle.filechecks.specs.FileChecks.{weight_asked}
use Rattle.filechecks.proofs.FieldLaws.{field_at}
use Rattle.filechecks.proofs.LastCheck.{last_given, last_passes}
use Rattle.filechecks.proofs.check_weight.Goals as goal

pub returns-in_err-check_field : goal.returns-in_err-check_field
returns-in_err-check_field c = rw (handed_on c.from_residual.ensures) (stops_before _ _ _ c.in_err-check_field.ensures)

pub bounds-file-at : goal.bounds-file-at
bounds-file-at c = omega (arith, (field_at _ _ (record { tag = 0x31; size = 1 }) (sym c.in_ok-check_field.ensures)).whole)

pub returns-then-file-at-gt1 : goal.returns-then-file-at-gt1
unfolding weight_asked
returns-then-file-at-gt1 c = last_given _ c.in_ok-check_field.ensures _ refl (lt-ltb _ _ c.if-file-at-gt1.true)

pub returns : goal.returns
unfolding weight_asked
returns c = last_passes _ c.in_ok-check_field.ensures _ (le-ltb _ _ c.if-file-at-gt1.false)
