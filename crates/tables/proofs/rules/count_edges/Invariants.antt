use mathlib.Core.Path.{◌≡◌}
use Rattle.laws.specs.Below.{count}
use Rattle.halfedges.specs.Cage.{above}
use Rattle.tables.proofs.rules.count_edges.Given as goal

abbrev pub invariant-loop-halfedge : goal.invariant-loop-halfedge
invariant-loop-halfedge l = l.edges ≡ count l.halfedge (above l.twin)
