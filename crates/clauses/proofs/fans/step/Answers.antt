-- `step` reads TWIN(PREV(h)), or goes on from the twin.
use Prim.Native.Nat.{◌<◌}
use mathlib.Core.Path.{ap, ◌∙◌}
use native.Mathlib.Omega.{arith}
use lib.ListN.{length}
use Rattle.halfedges.specs.Cage.{cell}
use Rattle.halfedges.proofs.Triangle.{next_below, prev_below}
use Rattle.clauses.proofs.Marking.{step_along, step_none, step_against}
use Rattle.clauses.proofs.fans.step.Goals as goal
use Rattle.clauses.proofs.fans.step.Goals.{After-previous-previous, Else-t}

inside : (c : After-previous-previous) → c.previous-previous.result < length c.args.twin.now
inside c = omega (arith, c.previous-previous.ensures, prev_below c.requires.0.whole c.requires.1)

twin_inside : (c : Else-t) → cell c.args.twin.now c.args.halfedge < length c.args.twin.now
twin_inside c = omega (arith, c.requires.0.paired.below _ c.requires.1 c.if-t.false)

pub offset_bounds-twin-previous : goal.offset_bounds-twin-previous
offset_bounds-twin-previous c = omega (arith, inside c)

pub bounds-twin-previous : goal.bounds-twin-previous
bounds-twin-previous c = inside (goal.at.bounds-twin-previous c).After-previous-previous

pub returns-then-along : goal.returns-then-along
returns-then-along c = ap (cell c.args.twin.now) c.previous-previous.ensures ∙ step_along _ _ _ c.if-along.true

pub returns-then-t : goal.returns-then-t
returns-then-t c = step_none _ _ _ c.if-along.false c.if-t.true

pub next-requires : goal.next-requires
next-requires c = omega (arith, c.requires.0.few, twin_inside c)

pub overflow_cast-result : goal.overflow_cast-result
overflow_cast-result c = omega (arith, c.next.ensures, c.requires.0.few, next_below c.requires.0.whole (twin_inside (goal.at.overflow_cast-result c).Else-t))

pub returns : goal.returns
returns c = c.next.ensures ∙ step_against _ _ _ c.if-along.false c.if-t.false
