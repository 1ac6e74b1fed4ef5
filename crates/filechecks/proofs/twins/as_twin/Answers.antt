-- `as_twin` goes by the definition's test.
use borrow.Author.Tests.{eq-eqb, ne_eqb}
use Rattle.filechecks.proofs.twins.as_twin.Goals as goal

pub returns-then-number-eq-NO_TWIN : goal.returns-then-number-eq-NO_TWIN
returns-then-number-eq-NO_TWIN c = simp (eq-eqb _ _ c.if-number-eq-NO_TWIN.true)

pub returns-else-number-eq-NO_TWIN : goal.returns-else-number-eq-NO_TWIN
returns-else-number-eq-NO_TWIN c = simp (ne_eqb _ _ c.if-number-eq-NO_TWIN.false)
