-- `count_borders` counts the halfedges that have no twin.
use mathlib.Core.Path.{◌≡◌}
use native.Mathlib.Omega.{arith}
use lib.ListN.{length}
use Rattle.laws.proofs.Counts.{count_at_most}
use Rattle.halfedges.specs.Cage.{border, B}
use Rattle.tables.proofs.rules.count_borders.Goals as goal

pub overflow_add-borders : goal.overflow_add-borders
overflow_add-borders c = let i = c.loop-other in omega (arith, i.invariant, count_at_most i.other-index (border c.args.twin.now))

pub returns : goal.returns
unfolding B
returns c = let e : c.loop-other.other-index ≡ length c.args.twin.now = omega arith in rw (← e) c.loop-other.invariant
