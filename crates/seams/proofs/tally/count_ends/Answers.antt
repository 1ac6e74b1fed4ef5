-- `count_ends` counts one more at each end, where the tally has room for both.
use borrow.Author.Rules.{rules}
use Prim.Native.Nat.{◌<◌}
use mathlib.Core.Path.{ap}
use native.Mathlib.Omega.{arith}
use lib.ListN.{length}
use Rattle.halfedges.specs.Cage.{cell}
use Rattle.halfedges.proofs.Triangle.{next_below}
use Rattle.seams.proofs.Counted.{bumped_few, ends_added}
use Rattle.seams.proofs.tally.count_ends.Goals as goal
use Rattle.seams.proofs.tally.count_ends.Goals.{After-next, Start}

module _ (c : After-next) where
  abbrev s : Start
  s = (goal.at.After-next c).Start

  next_in : c.next.result < length s.args.vert.now
  next_in = omega (arith, c.next.ensures, next_below s.requires.0 s.requires.2)

pub offset_bounds-vert-next : goal.offset_bounds-vert-next
offset_bounds-vert-next c = omega (arith, next_in c)

pub bounds-vert-next : goal.bounds-vert-next
bounds-vert-next c = omega (arith, next_in (goal.at.bounds-vert-next c).After-next)

pub count_one-requires : goal.count_one-requires
count_one-requires c = λ l. omega (arith, (s (goal.at.count_one-requires c).After-next).requires.3 _ l)

pub count_one-requires-2 : goal.count_one-requires-2
count_one-requires-2 c =
    let b = s (goal.at.count_one-requires-2 c).After-next in
    bumped_few b.args.counts.now c.count_one.new.tally (search rules) b.args.vert.now b.args.halfedge c.count_one.ensures b.requires.3 _

pub returns : goal.returns
returns c =
    let a = (s (goal.at.returns c).After-next).args in
    ends_added a.counts.now c.count_one.new.tally (search rules) a.vert.now a.halfedge c.count_one.ensures c.count_one-2.new.tally (ap (cell a.vert.now) c.next.ensures) c.count_one-2.ensures
