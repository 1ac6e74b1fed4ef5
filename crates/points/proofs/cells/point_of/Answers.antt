-- `point_of` reads the three cells of its definition.
use Prim.Native.Nat.{◌+◌, ◌*◌}
use native.Mathlib.Nat.{add-zero}
use mir.Syntax.{w32}
use Rattle.laws.proofs.Integers.{back_of}
use Rattle.points.specs.Internal.Cells.{value}
use Rattle.points.proofs.cells.point_of.Goals as goal

pub returns : goal.returns
returns c =
    let l = c.args.points.now in
    let v = c.args.vertex in
    simp (add-zero (3 * v), back_of w32 (value l (3 * v)) c.result-1.given, back_of w32 (value l (3 * v + 1)) c.result-2-1.given, back_of w32 (value l (3 * v + 2)) c.result-3-1.given)
