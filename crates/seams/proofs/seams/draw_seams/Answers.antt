-- `draw_seams` takes a step of its definition a turn; the level's points stay where they are.
use Prim.Native.Nat.{◌<◌}
use mathlib.Core.Path.{sym}
use native.Mathlib.Omega.{arith}
use lib.ListN.{length}
use Rattle.laws.proofs.Steps.{steps_none, steps_end}
use Rattle.seams.proofs.Numbers.{outline_is}
use Rattle.seams.proofs.Seaming.{seamed_on, seam_on}
use Rattle.seams.proofs.seams.draw_seams.Goals as goal

pub loop-halfedge-init : goal.loop-halfedge-init
loop-halfedge-init c = sym (steps_none _ _)

pub draw_any-requires : goal.draw_any-requires
draw_any-requires c =
    let b : c.loop-halfedge.halfedge < length c.args.level.now.vert.now = omega (arith, c.requires.1.edge_long) in
    (c.requires.0, seamed_on _ _ _ _ _ _ _ c.requires.1 c.loop-halfedge.halfedge b c.loop-halfedge.invariant, b, outline_is _ _ c.requires.0)

pub loop-halfedge-preserved : goal.loop-halfedge-preserved
loop-halfedge-preserved c =
    let b : c.loop-halfedge.halfedge < length c.args.level.now.vert.now = omega (arith, c.requires.1.edge_long) in
    seam_on _ _ _ _ _ _ _ c.requires.1 c.loop-halfedge.halfedge b c.loop-halfedge.invariant c.draw_any.ensures

pub returns : goal.returns
returns c = steps_end _ _ c.loop-halfedge.invariant (omega (arith, c.requires.1.edge_long))
