-- `put_corner` joins the halves of the triangle's twins, whose place in their triangles tells NEXT.
use Rattle.splitting.specs.Internal.InPlace.{split_twins, Leaving}
use Rattle.splitting.proofs.Descent.{last_next, first_next}
use Rattle.splitting.proofs.above.put_corner.Goals as goal
use Rattle.splitting.proofs.above.put_corner.Goals.{After-three-twins, Start}

-- the twins that are read
module _ (r : After-three-twins) where
  abbrev start : Start
  start = (goal.at.After-three-twins r).Start

  last : Leaving 2 r.three-twins.result.0
  last = rw r.three-twins.ensures start.requires.corner_triangle.first

  first : Leaving 0 r.three-twins.result.2
  first = rw r.three-twins.ensures start.requires.corner_triangle.third

pub twin_halves-requires : goal.twin_halves-requires
twin_halves-requires c = last_next (last (goal.at.twin_halves-requires c).After-three-twins)

pub twin_halves-requires-2 : goal.twin_halves-requires-2
twin_halves-requires-2 c = first_next (first (goal.at.twin_halves-requires-2 c).After-three-twins)

pub returns : goal.returns
unfolding split_twins
returns c =
    rw (c.put.ensures, c.join_twins-split.ensures, c.twin_halves-2.ensures, c.known_halves.ensures, c.twin_halves.ensures, c.three-twins.ensures, (start (goal.at.returns c).After-three-twins).requires.corner_triangle.second)
