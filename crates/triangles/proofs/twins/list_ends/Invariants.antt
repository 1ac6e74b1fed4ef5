use mathlib.Core.Path.{◌≡◌}
use Rattle.laws.specs.Below.{tabulate}
use Rattle.laws.specs.Parts.{in_front}
use Rattle.halfedges.specs.Cage.{NEXT, cell}
use Rattle.triangles.proofs.twins.list_ends.Given as goal

abbrev pub invariant-loop-halfedge : goal.invariant-loop-halfedge
invariant-loop-halfedge l =
    l.ends ≡ in_front (tabulate l.halfedge (λ h. cell l.vert (NEXT h))) l.initial.ends
