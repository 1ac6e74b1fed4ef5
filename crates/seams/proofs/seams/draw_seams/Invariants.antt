use mathlib.Core.Path.{◌≡◌}
use Rattle.laws.specs.Internal.Steps.{steps}
use Rattle.seams.specs.Internal.Seams.{seam}
use Rattle.seams.proofs.seams.draw_seams.Given as goal

abbrev pub invariant-loop-halfedge : goal.invariant-loop-halfedge
invariant-loop-halfedge l = l.points ≡ steps l.halfedge (seam l.creases.numbers.now l.creases.level l.creases.counts.now l.level.vert.now l.level.edge.now l.vertices l.initial.points) l.initial.points
