-- `any_out_of_range` has found whether one of the coordinates passed is out of range.
use mathlib.Core.Path.{◌≡◌, ap₂}
use mathlib.Core.Bool.{◌||◌}
use native.Mathlib.Numerals.{add-one}
use native.Mathlib.Omega.{arith}
use lib.IntN.{pos}
use lib.ListN.{length, get_or}
use mir.Syntax.{w32}
use Rattle.laws.proofs.Integers.{back_of}
use Rattle.points.specs.Operations.{out_of_range}
use Rattle.cage.proofs.any_out_of_range.Goals as goal

pub loop-coordinate-preserved : goal.loop-coordinate-preserved
unfolding out_of_range
loop-coordinate-preserved c =
    let i = c.loop-coordinate in
    let l = c.args.points.now in
    let t = rw (back_of w32 (get_or l i.coordinate-index (pos 0)) c.out_of_range-arg-1.given) at c.out_of_range-found.ensures in
    rw (add-one i.coordinate-index) (ap₂ ◌||◌ i.invariant t)

pub returns : goal.returns
returns c =
    let e : c.loop-coordinate.coordinate-index ≡ length c.args.points.now = omega arith in
    rw e at c.loop-coordinate.invariant
