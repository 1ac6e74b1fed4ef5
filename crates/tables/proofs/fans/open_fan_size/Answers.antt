-- `open_fan_size` counts the halfedges met along the links; where the last has no link, these are all.
use Prim.Native.Nat.{◌+◌}
use native.Mathlib.Omega.{arith}
use Rattle.tables.proofs.Walks.{along, Walked, start, last_below, few_met, along_on, along_end}
use Rattle.tables.proofs.fans.open_fan_size.Goals as goal
use Rattle.tables.proofs.fans.open_fan_size.Goals.{In-loop-other}

-- one halfedge more
ahead : (c : In-loop-other) → Walked c.args.twin.now along c.args.first (c.loop-other.size + 1) c.loop-other.other
ahead c =
    let i = c.loop-other.invariant in
    along_on _ c.requires.0 c.requires.2 i.1 i.2 c.loop-other-test.true

pub loop-other-init : goal.loop-other-init
loop-other-init c = (c.args.first, start _ c.requires.0 along _ c.requires.1, c.linked_with-other.ensures)

pub linked_with-other-requires-in-loop-other : goal.linked_with-other-requires-in-loop-other
linked_with-other-requires-in-loop-other c = (c.requires.0, last_below _ c.requires.0 (ahead c))

pub overflow_add-size : goal.overflow_add-size
overflow_add-size c = omega (arith, c.requires.0.few, few_met _ c.requires.0 (ahead (goal.at.overflow_add-size c).In-loop-other))

pub loop-other-smaller : goal.loop-other-smaller
loop-other-smaller c = omega (arith, few_met _ c.requires.0 (ahead (goal.at.loop-other-smaller c).In-loop-other))

pub loop-other-preserved : goal.loop-other-preserved
loop-other-preserved c = (c.loop-other.other, ahead (goal.at.loop-other-preserved c).In-loop-other, c.linked_with-other-in-loop-other.ensures)

pub returns : goal.returns
returns c = let i = c.loop-other.invariant in along_end _ c.requires.0 c.requires.2 i.1 i.2 c.loop-other-test.false
