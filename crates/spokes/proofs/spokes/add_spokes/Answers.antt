-- `add_spokes` takes three steps of its definition a turn, of a triangle's halfedges; the sums so far leave room for them.
use Prim.Native.Nat.{◌+◌, ◌*◌, ◌<◌}
use mathlib.Core.Path.{sym, subst}
use native.Mathlib.Omega.{arith}
use lib.ListN.{length}
use Rattle.laws.specs.Internal.Steps.{steps}
use Rattle.laws.proofs.Steps.{steps_none, steps_end}
use Rattle.spokes.specs.Internal.Spokes.{spoke, AddsTriangle}
use Rattle.points.proofs.Holding.{holds_own}
use Rattle.spokes.proofs.Gathered.{triangle_adds, triangle_on}
use Rattle.spokes.proofs.spokes.add_spokes.Goals as goal

pub loop-triangle-init : goal.loop-triangle-init
loop-triangle-init c = sym (steps_none _ _)

pub add_triangle-requires : goal.add_triangle-requires
add_triangle-requires c =
    let n = c.args.vertices in
    let v = c.args.vert.now in
    let l = c.args.points.now in
    let h : 3 * c.loop-triangle.triangle + 2 < length c.args.vert.now = omega arith in
    subst (AddsTriangle n c.corners_of-corners.result) (sym c.loop-triangle.invariant)
    (subst (λ t. AddsTriangle n t (steps (3 * c.loop-triangle.triangle) (spoke v n) l)) (sym c.corners_of-corners.ensures)
    (triangle_adds v n c.requires.cornered l c.requires.laid.room _ (holds_own n l) c.requires.laid.in_range c.requires.cleared c.loop-triangle.triangle h))

pub loop-triangle-preserved : goal.loop-triangle-preserved
loop-triangle-preserved c =
    triangle_on _ _ _ _ c.corners_of-corners.ensures c.loop-triangle.invariant c.add_triangle.ensures

pub returns : goal.returns
returns c = steps_end _ _ c.loop-triangle.invariant (omega (arith, c.requires.cornered.whole))
