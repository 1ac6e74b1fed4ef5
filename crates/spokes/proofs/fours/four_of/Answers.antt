-- `four_of` reads the six cells of its definition.
use Rattle.spokes.proofs.fours.four_of.Goals as goal

pub returns : goal.returns
returns c =
    λ i. record {
      u = c.vertex_at-u.ensures i;
      v = c.vertex_at-v.ensures i;
      w = c.vertex_at-w.ensures i;
      a = c.vertex_at-a.ensures i;
      b = c.vertex_at-b.ensures i;
      c = c.vertex_at-c.ensures i;
    }
