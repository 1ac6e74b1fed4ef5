-- `first_unused` goes up to the first vertex without a corner.
use mathlib.Core.Path.{sym, ◌∙◌}
use native.Mathlib.Omega.{arith}
use borrow.Author.Tests.{eq-eqb, ne_eqb}
use Rattle.tables.proofs.Upto.{upto_none, upto_more, upto_found, upto_all}
use Rattle.tables.proofs.Carriers.{unused-count}
use Rattle.tables.proofs.rules.first_unused.Goals as goal

pub loop-vertex-init : goal.loop-vertex-init
loop-vertex-init c = upto_none _

pub returns-then-corners-vertex-eq0 : goal.returns-then-corners-vertex-eq0
returns-then-corners-vertex-eq0 c =
    let i = c.loop-vertex in
    upto_found i.invariant (sym (unused-count _ i.vertex)) _ (omega arith) (eq-eqb _ _ (sym (c.requires.counted.each i.vertex (omega arith)) ∙ c.if-corners-vertex-eq0.true))

pub loop-vertex-preserved : goal.loop-vertex-preserved
loop-vertex-preserved c =
    let i = c.loop-vertex in
    upto_more i.invariant (sym (unused-count _ i.vertex)) (ne_eqb _ _ (λ e. c.if-corners-vertex-eq0.false (c.requires.counted.each i.vertex (omega arith) ∙ e)))

pub returns : goal.returns
returns c = upto_all _ c.loop-vertex.invariant (omega arith)
