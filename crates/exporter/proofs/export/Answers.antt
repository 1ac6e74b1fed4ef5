-- The facets are made from the tables' fronts, which hold what the reply is made from.
use Rattle.exporter.proofs.Parts.{out_drawn}
use Rattle.exporter.proofs.export.Goals as goal

pub put_facets-requires : goal.put_facets-requires
put_facets-requires c =
    let o = c.in-Ok.ensures.opens in
    rw (o.corners, o.places) (out_drawn _)
