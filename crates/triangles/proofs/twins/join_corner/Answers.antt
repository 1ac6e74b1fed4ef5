-- `join_corner` looks for the twin of the halfedge before the corner, and at the first of its own.
use Prim.Native.Nat.{◌<◌}
use native.Mathlib.Omega.{arith}
use lib.ListN.{length}
use Rattle.alike.specs.Internal.Alike.{bound}
use Rattle.halfedges.specs.Cage.{NEXT, cell}
use Rattle.halfedges.proofs.Triangle.{next_below, prev_below}
use Rattle.triangles.proofs.Doubles.{ends_long, end_at}
use Rattle.triangles.proofs.twins.join_corner.Goals as goal
use Rattle.triangles.proofs.twins.join_corner.Goals.{After-previous-previous, Start}

-- once the halfedge before is known
module _ (p : After-previous-previous) where
  abbrev start : Start
  start = (goal.at.After-previous-previous p).Start

  inside : p.previous-previous.result < length start.args.vert.now
  inside = omega (arith, p.previous-previous.ensures, prev_below start.requires.ended.0.whole.whole start.requires.ended.1)

  small : cell start.args.vert.now p.previous-previous.result < bound
  small = start.requires.ended.0.small.each p.previous-previous.result inside

  end_small : cell start.args.ends.now start.args.halfedge < bound
  end_small =
      let l = start.requires.ended.1 in
      omega (arith, end_at start.requires.ended.0 start.args.halfedge l, start.requires.ended.0.small.each (NEXT start.args.halfedge) (next_below start.requires.ended.0.whole.whole l))

pub offset_bounds-vert-previous : goal.offset_bounds-vert-previous
offset_bounds-vert-previous c = omega (arith, inside c, (start c).requires.ended.0.whole.few)

pub bounds-vert-previous : goal.bounds-vert-previous
bounds-vert-previous c = inside (goal.at.bounds-vert-previous c).After-previous-previous

pub twin_of-requires : goal.twin_of-requires
twin_of-requires c = ((start (goal.at.twin_of-requires c).After-previous-previous).requires.ended.0, inside (goal.at.twin_of-requires c).After-previous-previous)

pub offset_bounds-twin-previous : goal.offset_bounds-twin-previous
offset_bounds-twin-previous c = omega (arith, inside (goal.at.offset_bounds-twin-previous c).After-previous-previous, (start (goal.at.offset_bounds-twin-previous c).After-previous-previous).requires.ended.0.whole.few)

pub bounds-twin-previous : goal.bounds-twin-previous
bounds-twin-previous c = omega (arith, inside (goal.at.bounds-twin-previous c).After-previous-previous, (start (goal.at.bounds-twin-previous c).After-previous-previous).requires.bound_in_bounds.1)

pub bounds-ends-halfedge : goal.bounds-ends-halfedge
bounds-ends-halfedge c = let s = start (goal.at.bounds-ends-halfedge c).After-previous-previous in omega (arith, s.requires.ended.1, ends_long s.requires.ended.0)

pub bounds-marks-end : goal.bounds-marks-end
bounds-marks-end c = omega (arith, end_small (goal.at.bounds-marks-end c).After-previous-previous, (start (goal.at.bounds-marks-end c).After-previous-previous).requires.bound_in_bounds.0)
