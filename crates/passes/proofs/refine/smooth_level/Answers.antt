-- `smooth_level` hands on the level's part of each table, and puts back what comes of the points.
use Prim.Native.Nat.{◌-◌}
use mathlib.Core.Path.{ap, ◌∙◌}
use mathlib.Core.List.{[]}
use lib.ListN.{length}
use borrow.Rule.Slice.PartMut.{put_mid}
use Rattle.tables.specs.Tables.{held}
use Rattle.passes.specs.Internal.Levels.{tables_at}
use Rattle.passes.proofs.Lent.{span, ready_part, part_back}
use Rattle.passes.proofs.refine.smooth_level.Goals as goal

pub next_points-requires : goal.next_points-requires
next_points-requires c =
    let x = c.args.level in
    rw (span x.start x.counts.halfedges) (ready_part _ _ _ _ c.requires.ready)

pub returns : goal.returns
returns c =
    let x = c.args.level in
    let l = c.args.points.now in
    ap (put_mid x.at (length l - x.at) l) (rw (span x.start x.counts.halfedges) at c.next_points.ensures)
    ∙ part_back x.counts (tables_at x.counts x.start (held c.args.tables.now)) x.at l c.args.weight []
