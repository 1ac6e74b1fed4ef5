-- The facet that is filled from a triangle's corners has that triangle's bytes.
use mathlib.Core.Path.{ap, ◌∙◌}
use Rattle.laws.specs.Parts.{in_front}
use Rattle.stl.proofs.FacetLaws.{triangle_placed, filled_as, facet_numbers, facet_bytes_lem}
use borrow.Author.Rules.{rules}
use Rattle.stl.proofs.facets.put_triangle.Goals as goal

pub facet_of-facet-requires : goal.facet_of-facet-requires
facet_of-facet-requires c =
    (triangle_placed c.args.vert.now c.args.points.now c.requires.2 c.args.triangle c.requires.1 c.corners_of.ensures, c.requires.2.ranged)

pub put_facet-requires : goal.put_facet-requires
put_facet-requires c =
    (search rules, facet_numbers c.requires.2.ranged c.facet_of-facet.ensures)

pub returns : goal.returns
returns c =
    c.put_facet.ensures
    ∙ ap (λ bs. in_front bs c.args.part.now) (facet_bytes_lem c.requires.2.ranged (filled_as c.corners_of.ensures c.facet_of-facet.ensures))
