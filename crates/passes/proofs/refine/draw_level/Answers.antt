-- `draw_level` hands on the level's part of each table, and puts back what comes of the points.
use Prim.Native.Nat.{◌-◌}
use mathlib.Core.Path.{ap, ◌∙◌}
use lib.ListN.{length}
use borrow.Rule.Slice.PartMut.{put_mid}
use Rattle.laws.proofs.Middles.{rest_whole}
use Rattle.passes.specs.Internal.Levels.{with_seams}
use Rattle.passes.proofs.Lent.{span, put_rest}
use Rattle.passes.proofs.refine.draw_level.Goals as goal

pub draw_seams-requires : goal.draw_seams-requires
draw_seams-requires c =
    let x = c.args.level in
    rw (span x.start x.counts.halfedges, rest_whole c.args.points.now x.at) (c.requires.limited, c.requires.seamed)

pub returns : goal.returns
unfolding with_seams
returns c =
    let x = c.args.level in
    let l = c.args.points.now in
    ap (put_mid x.at (length l - x.at) l) (rw (span x.start x.counts.halfedges, rest_whole l x.at) at c.draw_seams.ensures)
    ∙ put_rest x.at l _
