-- `read_corner` reads a vertex and its point.
use Rattle.halfedges.specs.Cage.{cell}
use Rattle.edgepoints.proofs.edges.read_corner.Goals as goal

pub returns : goal.returns
returns c =
    λ i. record { vertex = cell c.args.vert.now c.args.halfedge; point = c.point_of-point.ensures i }
