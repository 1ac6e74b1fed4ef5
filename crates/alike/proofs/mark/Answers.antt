-- `mark` goes down a chain: what is marked for a label is the lowest item that was met.
use Prim.Native.Nat.{◌-◌}
use native.Mathlib.Omega.{arith}
use Rattle.alike.proofs.Chains.{at_head, at_next, item_below, next_less}
use Rattle.alike.proofs.Walks.{lower_start, lower_on, lower_end}
use Rattle.alike.proofs.mark.Goals as goal
use Rattle.alike.proofs.mark.Goals.{In-loop-end, Start}

pub loop-end-init : goal.loop-end-init
loop-end-init c = (at_head c.requires.0, lower_start _ _ c.requires.0 _)

pub loop-end-smaller : goal.loop-end-smaller
loop-end-smaller c = next_less c.requires.0 c.loop-end.invariant.0 c.loop-end-test.true

pub loop-end-preserved : goal.loop-end-preserved
loop-end-preserved c =
    let i = c.loop-end in
    let v = i.invariant in
    let n = c.loop-end-test.true in
    let small = c.requires.0.keyed.label_below (i.end - 1) (item_below c.requires.0 v.0 n) in
    (at_next c.requires.0 v.0 n, lower_on _ _ c.requires.0 v.0 n _ (omega (arith, small, c.requires.1, i.auto.marks)) v.1)

pub returns : goal.returns
returns c =
    lower_end _ _ c.requires.0 _ (rw c.loop-end-test.false at c.loop-end.invariant.1)
