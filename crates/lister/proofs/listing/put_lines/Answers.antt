-- `put_lines` keeps the lines put so far, and B as often doubled.
use mathlib.Core.Path.{◌≡◌}
use native.Mathlib.Omega.{arith}
use Rattle.text.proofs.Texts.{put_none, put_next}
use Rattle.lister.specs.Listing.{level_line}
use Rattle.lister.specs.Internal.Doubling.{doubled}
use Rattle.lister.proofs.Lines.{few_doubled, doubled-next, level-line}
use Rattle.lister.proofs.listing.put_lines.Goals as goal

pub loop-level-init : goal.loop-level-init
loop-level-init c = (omega arith, put_none _ _)

pub put_level-at-requires : goal.put_level-at-requires
put_level-at-requires c = let p = c.loop-level.invariant.1 in omega arith

pub overflow_mul-level_borders : goal.overflow_mul-level_borders
overflow_mul-level_borders c =
    omega (arith, few_doubled c.args.borders c.loop-level.level c.requires.0 (omega arith))

pub loop-level-preserved : goal.loop-level-preserved
loop-level-preserved c =
    let s = c.args in
    let new = level-line s.levels (doubled s.borders) c.loop-level.level c.counts_of.result c.loop-level.level_borders c.counts_of.ensures c.loop-level.invariant.0 c.put_level-at.ensures in
    (doubled-next s.borders c.loop-level.level c.loop-level.level_borders c.loop-level.invariant.0, put_next (level_line s.levels (doubled s.borders)) 126 c.loop-level.level c.loop-level.invariant.1 new)

pub returns : goal.returns
returns c =
    let all : c.loop-level.level ≡ 7 = omega arith in
    rw all at c.loop-level.invariant.1
