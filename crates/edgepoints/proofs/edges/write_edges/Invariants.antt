use Prim.Native.Nat.{◌*◌}
use mathlib.Core.Path.{◌≡◌}
use Rattle.laws.specs.Internal.Steps.{steps}
use Rattle.edgepoints.specs.Internal.Edges.{put_edge}
use Rattle.edgepoints.proofs.edges.write_edges.Given as goal

abbrev pub invariant-loop-triangle : goal.invariant-loop-triangle
invariant-loop-triangle l = l.points ≡ steps (3 * l.triangle) (put_edge l.level.twin.now l.level.vert.now l.level.edge.now l.vertices l.initial.points) l.initial.points
