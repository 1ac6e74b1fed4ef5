-- `copy` has copied the cells passed, and left the others.
use mathlib.Core.Path.{ap}
use native.Mathlib.Omega.{arith}
use lib.ListN.{set}
use Rattle.laws.proofs.InFront.{copying_start, copying_on, copying_done}
use Rattle.levels.proofs.refine.copy.Goals as goal

pub loop-place-init : goal.loop-place-init
loop-place-init g c = copying_start c.requires

pub loop-place-preserved : goal.loop-place-preserved
loop-place-preserved g c =
    copying_on c.loop-place.invariant c.index-from-place.result (omega (arith, c.loop-place-test.true))
    (ap (set c.loop-place.to c.loop-place.place) c.index-from-place.is)

pub returns : goal.returns
returns g c = copying_done c.loop-place.invariant (omega arith)
