-- `next` makes its definition's level.
use Prim.Native.Nat.{◌+◌, ◌-◌, ◌*◌}
use Rattle.passes.proofs.level.Level.next.Goals as goal

pub returns : goal.returns
returns c =
    let x = c.args.self in
    λ i. record {
      number = x.number + 1;
      left = x.left - 1;
      counts = c.finer-finer.ensures i;
      before = x.counts.halfedges;
      start = x.start + x.counts.halfedges;
      at = x.at + 3 * x.counts.vertices;
    }
