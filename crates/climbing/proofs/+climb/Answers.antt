-- What `climb` answers of the ancestor makes what the halfedge has.
use mathlib.Core.Path.{◌∙◌}
use native.Mathlib.Omega.{arith}
use Rattle.climbing.proofs.Ancestors.{cage_there, cage_is, up_climbable, up_there, old_small, down_small, down_there, down_is}
use Rattle.climbing.proofs.+climb.Goals as goal

pub cells_at-requires : goal.cells_at-requires
cells_at-requires t c = cage_there c.requires.0 c.requires.1 c.if-depth-eq0.true

pub returns-then-depth-eq0 : goal.returns-then-depth-eq0
returns-then-depth-eq0 t c = c.cells_at.ensures ∙ cage_is c.requires.0 c.requires.1 c.if-depth-eq0.true

pub ancestor-ancestor-requires : goal.ancestor-ancestor-requires
ancestor-ancestor-requires t c = (
  (down_small c.requires.0 c.requires.1 c.if-depth-eq0.false c.at-level.ensures).halfedges,
  down_there c.requires.0 c.requires.1 c.if-depth-eq0.false c.at-level.ensures,
)

pub climb-old-requires : goal.climb-old-requires
climb-old-requires t c = (
  omega (arith, c.if-depth-eq0.false),
  (
    up_climbable c.requires.0 c.requires.1 c.if-depth-eq0.false,
    up_there c.requires.0 c.requires.1 c.if-depth-eq0.false c.at-level.ensures c.ancestor-ancestor.ensures,
  ),
)

pub child-requires : goal.child-requires
child-requires t c = (
  old_small c.requires.0 c.requires.1 c.if-depth-eq0.false c.at-level.ensures c.ancestor-ancestor.ensures c.climb-old.ensures,
  down_small c.requires.0 c.requires.1 c.if-depth-eq0.false c.at-level.ensures,
  down_there c.requires.0 c.requires.1 c.if-depth-eq0.false c.at-level.ensures,
)

pub returns : goal.returns
returns t c = down_is c.requires.0 c.requires.1 c.if-depth-eq0.false c.at-level.ensures c.ancestor-ancestor.ensures c.climb-old.ensures c.child.ensures
