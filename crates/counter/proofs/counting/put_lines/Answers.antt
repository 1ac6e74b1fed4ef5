-- `put_lines` keeps the lines put so far.
use Prim.Native.Nat.{suc, ◌+◌}
use mathlib.Core.Path.{◌≡◌, ap}
use native.Mathlib.Omega.{arith}
use Rattle.text.specs.Lines.{line}
use Rattle.text.proofs.Texts.{put_none, put_next, put_within}
use Rattle.counter.specs.Counting.{count_line}
use Rattle.counter.proofs.counting.put_lines.Goals as goal

pub loop-level-init : goal.loop-level-init
loop-level-init c = put_none _ _

pub put_counts-at-requires : goal.put_counts-at-requires
put_counts-at-requires c = let p = c.loop-level.invariant in omega arith

pub loop-level-preserved : goal.loop-level-preserved
loop-level-preserved c =
    put_next (count_line c.args.levels) 105 c.loop-level.level c.loop-level.invariant (rw (ap line c.counts_of.ensures) at c.put_counts-at.ensures)

pub returns-2 : goal.returns-2
returns-2 c =
    let last : c.loop-level.level + 1 ≡ suc c.args.depth = omega arith in
    let all = put_next (count_line c.args.levels) 105 c.loop-level.level c.loop-level.invariant (rw (ap line c.counts_of.ensures) at c.put_counts-at.ensures) in
    put_within (omega arith) (rw last at all)
