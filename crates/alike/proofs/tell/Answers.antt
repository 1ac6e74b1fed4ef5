-- `tell` goes down a chain once more: each item that is met takes what is marked for its label.
use Prim.Native.Nat.{◌-◌}
use native.Mathlib.Omega.{arith}
use Rattle.alike.proofs.Chains.{at_head, at_next, item_below, next_less}
use Rattle.alike.proofs.Walks.{gone_start, gone_on}
use Rattle.alike.proofs.tell.Goals as goal
use Rattle.alike.proofs.tell.Goals.{In-loop-end, Start}

pub loop-end-init : goal.loop-end-init
loop-end-init c = (at_head c.requires.chain.0, gone_start _ _ c.requires.chain.0 _)

pub loop-end-smaller : goal.loop-end-smaller
loop-end-smaller c = next_less c.requires.chain.0 c.loop-end.invariant.0 c.loop-end-test.true

pub loop-end-preserved : goal.loop-end-preserved
loop-end-preserved c =
    let i = c.loop-end in
    let v = i.invariant in
    let n = c.loop-end-test.true in
    let below = item_below c.requires.chain.0 v.0 n in
    (at_next c.requires.chain.0 v.0 n, gone_on _ _ c.requires.chain.0 v.0 n _ _ (omega (arith, below, c.requires.bound_in_bounds.1, i.auto.first)) v.1 (c.requires.chain.1.each (i.end - 1) below (v.0.here n)))
