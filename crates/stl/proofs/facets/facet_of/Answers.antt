-- The facet's floats are those of its units.
use Rattle.stl.proofs.FacetLaws.{facet_floats}
use Rattle.stl.proofs.facets.facet_of.Goals as goal

pub returns : goal.returns
returns c =
    let s = c.args in
    record { same = facet_floats s.points.now s.corners c.corner_of-a.ensures c.corner_of-b.ensures c.corner_of-c.ensures }
