-- `split_verts` joins the three corners and the edges' vertices.
use Rattle.splitting.specs.Internal.InPlace.{split_verts}
use Rattle.splitting.proofs.split.split_verts.Goals as goal

pub returns : goal.returns
unfolding split_verts
returns c = rw (c.join.ensures, c.on_edge-a.ensures, c.on_edge-b.ensures, c.on_edge-c.ensures)
