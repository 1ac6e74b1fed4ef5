use mathlib.Core.Path.{◌≡◌}
use Rattle.laws.specs.Parts.{in_front}
use Rattle.halfedges.specs.Corners.{corners}
use Rattle.stl.specs.Internal.Facets.{Filled}
use Rattle.stl.proofs.FacetLaws.{facets}
use Rattle.stl.proofs.file.put_facets.Given as goal

abbrev pub invariant-loop-triangle : goal.invariant-loop-triangle
invariant-loop-triangle l =
    (l.part ≡ in_front (facets l.vert l.points l.triangle) l.initial.part) × Filled l.points (corners l.vert l.triangle) l.facet
