-- `write_edges` takes three steps of its definition a turn, of a triangle's halfedges; the level's points stay where they are.
use Prim.Native.Nat.{◌+◌, ◌*◌, ◌<◌}
use mathlib.Core.Path.{sym, subst}
use native.Mathlib.Omega.{arith}
use lib.ListN.{length}
use Rattle.laws.proofs.Steps.{steps_none, steps_end}
use Rattle.edgepoints.specs.Internal.Edges.{Asks, step_edge, triangle_of, Readable, AskedInTurn}
use Rattle.edgepoints.proofs.Writes.{triangle_asks, triangle_same}
use Rattle.edgepoints.proofs.edges.write_edges.Goals as goal

pub loop-triangle-init : goal.loop-triangle-init
loop-triangle-init c = sym (steps_none _ _)

pub write_triangle-requires : goal.write_triangle-requires
write_triangle-requires c =
    let n = c.args.vertices in
    let t = c.loop-triangle.triangle in
    let inside : 3 * c.loop-triangle.triangle + 2 < length c.args.level.now.vert.now = omega (arith, c.requires.0.cornered.whole) in
    subst (λ m. Readable c.args.level.now.twin.now c.args.level.now.vert.now c.args.level.now.edge.now m t × AskedInTurn (Asks n) (step_edge n) (triangle_of c.args.level.now.twin.now c.args.level.now.vert.now c.args.level.now.edge.now m t) m) (sym c.loop-triangle.invariant)
    (triangle_asks c.args.level.now.twin.now c.args.level.now.vert.now c.args.level.now.edge.now n c.args.points.now c.requires.0 t inside c.requires.1)

pub loop-triangle-preserved : goal.loop-triangle-preserved
loop-triangle-preserved c =
    let n = c.args.vertices in
    let t = c.loop-triangle.triangle in
    let inside : 3 * c.loop-triangle.triangle + 2 < length c.args.level.now.vert.now = omega (arith, c.requires.0.cornered.whole) in
    triangle_same c.args.level.now.twin.now c.args.level.now.vert.now c.args.level.now.edge.now n c.args.points.now c.requires.0 t inside c.loop-triangle.invariant c.write_triangle.ensures

pub returns : goal.returns
returns c = steps_end _ _ c.loop-triangle.invariant (omega (arith, c.requires.0.cornered.whole))
