-- `chain` chains one item after the other.
use native.Mathlib.Omega.{arith}
use Rattle.alike.proofs.Chains.{chained_none, chained_on}
use Rattle.alike.proofs.chain.Goals as goal
use Rattle.alike.proofs.chain.Goals.{In-loop-item}

pub loop-item-init : goal.loop-item-init
loop-item-init c = chained_none _ _ _ c.requires.by_index

pub loop-item-preserved : goal.loop-item-preserved
loop-item-preserved c =
    let i = c.loop-item in
    let small = c.requires.keyed.0.group_below i.item (omega arith) in
    chained_on _ _ _ _ (omega (arith, small, c.requires.keyed.1, i.auto.heads)) (omega arith) i.invariant
