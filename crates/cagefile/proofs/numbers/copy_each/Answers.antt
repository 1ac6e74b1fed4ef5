-- `copy_each` keeps the cells read so far in front of what the table held past them.
use Rattle.std.proofs.Common.{◌≡◌, ◌<◌, length}
use native.Mathlib.Omega.{arith}
use Rattle.laws.proofs.Filling.{over_next}
use Rattle.cagefile.proofs.numbers.copy_each.Goals as goal

pub loop-index-preserved : goal.loop-index-preserved
loop-index-preserved g c = λ cell means.
    let h : c.loop-index.index < length c.loop-index.table = omega arith in
    over_next _ _ cell _ _ h (c.loop-index.invariant cell means) (means _ _ c.loop-index-test.true c.read.ensures)

pub returns : goal.returns
returns g c = λ cell means.
    let e : c.loop-index.index ≡ c.args.count = omega arith in
    rw e at c.loop-index.invariant cell means
