-- `split_edges` joins the halves of the three edges and the new edges, which are those of the middle triangle too.
use Rattle.splitting.specs.Internal.InPlace.{split_edges}
use Rattle.splitting.proofs.Triangles.{count_one}
use Rattle.splitting.proofs.split.split_edges.Goals as goal

pub returns : goal.returns
unfolding split_edges
returns c =
    rw (c.join.ensures, c.edge_halves-a.ensures, c.edge_halves-b.ensures, c.edge_halves-c.ensures, count_one _ _ c.count_up-across.ensures)
