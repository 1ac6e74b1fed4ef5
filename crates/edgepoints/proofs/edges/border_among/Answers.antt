-- `border_among` tests one twin after the other.
use mathlib.Core.Path.{◌∙◌}
use mathlib.Core.Logic.{inl, inr}
use borrow.Author.Tests.{eq-eqb, ne_eqb}
use Rattle.halfedges.specs.Cage.{marker}
use Rattle.edgepoints.specs.Internal.Edges.{border_among}
use Rattle.edgepoints.proofs.edges.border_among.Goals as goal
use Rattle.edgepoints.proofs.edges.border_among.Goals.{then-triangle-eq-NO_TWIN, else-triangle-eq-NO_TWIN}

pub returns-then-triangle-eq-NO_TWIN-2 : goal.returns-then-triangle-eq-NO_TWIN-2
unfolding border_among
returns-then-triangle-eq-NO_TWIN-2 c =
    elim c.if-triangle-eq-NO_TWIN.branch [
      | then-triangle-eq-NO_TWIN w ↦ w.t-3-is ∙ rw (eq-eqb _ marker w.if-triangle-eq-NO_TWIN.true)
      | else-triangle-eq-NO_TWIN w ↦
          w.t-3-is ∙ elim c.if-triangle-eq-NO_TWIN-2.either [ inl e ↦ absurd (w.if-triangle-eq-NO_TWIN.false e) | inr e ↦ rw (ne_eqb _ marker e.0, eq-eqb _ marker e.1) ]
    ]

pub returns-else-triangle-eq-NO_TWIN-2 : goal.returns-else-triangle-eq-NO_TWIN-2
unfolding border_among
returns-else-triangle-eq-NO_TWIN-2 c = rw (ne_eqb _ marker c.if-triangle-eq-NO_TWIN-2.false.0, ne_eqb _ marker c.if-triangle-eq-NO_TWIN-2.false.1)
