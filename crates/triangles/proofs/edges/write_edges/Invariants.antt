use mathlib.Core.Path.{◌≡◌}
use Rattle.laws.specs.Below.{tabulate, count}
use Rattle.laws.specs.Parts.{in_front}
use Rattle.triangles.specs.Plain.{is_lowest, edge_of}
use Rattle.triangles.proofs.edges.write_edges.Given as goal

abbrev pub invariant-loop-halfedge : goal.invariant-loop-halfedge
invariant-loop-halfedge l =
    (l.edges ≡ count l.halfedge (is_lowest l.twin))
    × (l.edge ≡ in_front (tabulate l.halfedge (edge_of l.twin)) l.initial.edge)
