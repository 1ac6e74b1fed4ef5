-- `clear_ends` leaves the tally where the halfedge has a twin, and else clears its two ends.
use Prim.Native.Nat.{◌<◌}
use mathlib.Core.Path.{ap}
use native.Mathlib.Omega.{arith}
use lib.ListN.{length, length-set}
use borrow.Author.Tests.{eq-eqb, ne_eqb}
use Rattle.halfedges.specs.Cage.{cell}
use Rattle.halfedges.proofs.Triangle.{next_below}
use Rattle.valences.proofs.Counted.{twin_kept, ends_cleared}
use Rattle.valences.proofs.clear_ends.Goals as goal
use Rattle.valences.proofs.clear_ends.Goals.{After-next, Start}

-- the next halfedge is one of the table's
module _ (c : After-next) where
  abbrev start : Start
  start = (goal.at.After-next c).Start

  next_in : c.next.result < length start.args.vert.now
  next_in = omega (arith, c.next.ensures, next_below start.requires.0.whole start.requires.1)

  -- both ends have a cell
  from_in : cell start.args.vert.now start.args.halfedge < length start.args.corners.now
  from_in = start.requires.0.below _ start.requires.1

  to_in : cell start.args.vert.now c.next.result < length start.args.corners.now
  to_in = start.requires.0.below _ next_in

pub returns-then-twin-halfedge : goal.returns-then-twin-halfedge
returns-then-twin-halfedge c = twin_kept _ _ _ _ (ne_eqb _ _ c.if-twin-halfedge.true)

pub offset_bounds-vert-next : goal.offset_bounds-vert-next
offset_bounds-vert-next c = omega (arith, next_in c)

pub bounds-vert-next : goal.bounds-vert-next
bounds-vert-next c = next_in (goal.at.bounds-vert-next c).After-next

pub offset_bounds-corners-from : goal.offset_bounds-corners-from
offset_bounds-corners-from c = omega (arith, from_in (goal.at.offset_bounds-corners-from c).After-next)

pub bounds-corners-from : goal.bounds-corners-from
bounds-corners-from c = from_in (goal.at.bounds-corners-from c).After-next

pub offset_bounds-corners-to : goal.offset_bounds-corners-to
offset_bounds-corners-to c = omega (arith, to_in (goal.at.offset_bounds-corners-to c).After-next)

pub bounds-corners-to : goal.bounds-corners-to
bounds-corners-to c = simp length-set (to_in (goal.at.bounds-corners-to c).After-next)

pub returns : goal.returns
returns c =
    let n = (goal.at.returns c).After-next in
    let s = start n in
    ends_cleared s.args.twin.now s.args.vert.now s.args.halfedge s.args.corners.now (ap (cell s.args.vert.now) c.next.ensures) (eq-eqb _ _ c.if-twin-halfedge.false) (from_in n) (to_in n)
