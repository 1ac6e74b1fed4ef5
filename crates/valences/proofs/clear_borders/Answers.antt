-- `clear_borders` has cleared the ends of the halfedges passed.
use mathlib.Core.Path.{◌≡◌}
use native.Mathlib.Omega.{arith}
use lib.ListN.{length}
use Rattle.valences.proofs.Counted.{cleared_none, cleared_on}
use Rattle.valences.proofs.clear_borders.Goals as goal

pub loop-halfedge-init : goal.loop-halfedge-init
loop-halfedge-init c = cleared_none _ _ _

pub clear_ends-requires : goal.clear_ends-requires
clear_ends-requires c =
    (rw c.loop-halfedge.auto.corners c.requires, omega arith)

pub loop-halfedge-preserved : goal.loop-halfedge-preserved
loop-halfedge-preserved c =
    cleared_on _ _ c.loop-halfedge.auto.corners c.loop-halfedge.invariant c.clear_ends.ensures

pub returns : goal.returns
returns c =
    let e : c.loop-halfedge.halfedge ≡ length c.args.vert.now = omega arith in
    rw (← e) c.loop-halfedge.invariant
