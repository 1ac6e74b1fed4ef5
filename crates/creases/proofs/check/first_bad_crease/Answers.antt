-- `first_bad_crease` goes up to the first edge whose number is bad.
use mathlib.Core.Path.{◌∙◌}
use native.Mathlib.Omega.{arith}
use Rattle.halfedges.specs.Refusals.{CREASE}
use Rattle.tables.proofs.Upto.{upto_none, upto_more, upto_found, upto_all}
use Rattle.creases.proofs.Borders.{bad_is}
use Rattle.creases.proofs.check.first_bad_crease.Goals as goal

pub loop-number-init : goal.loop-number-init
loop-number-init c = upto_none _

pub returns-then-bad_crease : goal.returns-then-bad_crease
returns-then-bad_crease c =
    let i = c.loop-number in
    upto_found i.invariant (c.bad_crease.ensures ∙ bad_is _ _ c.requires.0 _ i.number (omega arith)) CREASE (omega arith) c.if-bad_crease.true

pub loop-number-preserved : goal.loop-number-preserved
loop-number-preserved c =
    let i = c.loop-number in
    upto_more i.invariant (c.bad_crease.ensures ∙ bad_is _ _ c.requires.0 _ i.number (omega arith)) c.if-bad_crease.false

pub returns : goal.returns
returns c = upto_all CREASE c.loop-number.invariant (omega arith)
