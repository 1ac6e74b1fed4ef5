-- `check_field` goes through the definition's three checks in order; the tag and the length are one of them.
use mathlib.Core.Path.{sym, ◌∙◌}
use borrow.Author.Tests.{eq-eqb, ne_eqb, lt-ltb, le-ltb}
use Rattle.halfedges.specs.Refusals.{given, first}
use Rattle.filechecks.specs.FileChecks.{field_checks}
use Rattle.filechecks.proofs.check_field.Goals as goal

pub returns-then-file-at : goal.returns-then-file-at
unfolding field_checks first given
returns-then-file-at c = simp (lt-ltb _ _ c.if-file-at.true)

pub returns-then-file-at-2 : goal.returns-then-file-at-2
unfolding field_checks first given
returns-then-file-at-2 c = simp (le-ltb _ _ c.if-file-at.false, ne_eqb _ _ c.if-file-at-2.true)

pub returns-then-number_at-size : goal.returns-then-number_at-size
unfolding field_checks first given
returns-then-number_at-size c = simp (le-ltb _ _ c.if-file-at.false, eq-eqb _ _ c.if-file-at-2.false, ne_eqb _ _ (λ e. c.if-number_at-size.true (c.number_at.ensures.0 ∙ e)))

pub returns-then-file-at-3 : goal.returns-then-file-at-3
unfolding field_checks first given
returns-then-file-at-3 c = simp (le-ltb _ _ c.if-file-at.false, eq-eqb _ _ c.if-file-at-2.false, eq-eqb _ _ (sym c.number_at.ensures.0 ∙ c.if-number_at-size.false), lt-ltb _ _ c.if-file-at-3.true)

pub returns : goal.returns
unfolding field_checks first given
returns c = simp (le-ltb _ _ c.if-file-at.false, eq-eqb _ _ c.if-file-at-2.false, eq-eqb _ _ (sym c.number_at.ensures.0 ∙ c.if-number_at-size.false), le-ltb _ _ c.if-file-at-3.false)
