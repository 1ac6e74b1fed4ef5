-- `refine_points` lists the corners of the cage's vertices by a tally of the cage's VERT.
use Prim.Native.Nat.{◌≤◌}
use mathlib.Core.Path.{sym}
use lib.ListN.{length, take, get_or-replicate}
use lib.Seq.{length-take-le}
use borrow.Author.Rules.{rules}
use Rattle.points.proofs.Ends.{tally_lists}
use Rattle.passes.proofs.refine.refine_points.Goals as goal
use Rattle.passes.proofs.refine.refine_points.Goals.{After-count_numbers, Start}

-- the tally, once the corners are counted
module _ (k : After-count_numbers) where
  abbrev s : Start
  s = (goal.at.After-count_numbers k).Start

  enough : s.args.table.vertices ≤ length k.count_numbers.new.tally
  enough = let small = s.requires.counts.vertices in search rules

pub slice_bounds-count_numbers-end : goal.slice_bounds-count_numbers-end
slice_bounds-count_numbers-end c = sym (length-take-le c.args.table.halfedges c.args.tables.now.vert.now c.requires.cage_long)

pub count_numbers-requires : goal.count_numbers-requires
count_numbers-requires c =
    (rw (length-take-le c.args.table.halfedges c.args.tables.now.vert.now c.requires.cage_long) c.requires.counts.halfedges, record { each = λ x l. get_or-replicate 3072 x 0 0 l })

pub slice_bounds-climb-end : goal.slice_bounds-climb-end
slice_bounds-climb-end c = sym (length-take-le (s (goal.at.slice_bounds-climb-end c).After-count_numbers).args.table.vertices c.count_numbers.new.tally (enough (goal.at.slice_bounds-climb-end c).After-count_numbers))

pub climb-requires : goal.climb-requires
climb-requires c =
    ((s (goal.at.climb-requires c).After-count_numbers).requires, tally_lists (take (s (goal.at.climb-requires c).After-count_numbers).args.table.halfedges (s (goal.at.climb-requires c).After-count_numbers).args.tables.now.vert.now) (s (goal.at.climb-requires c).After-count_numbers).args.table.vertices c.count_numbers.new.tally (enough (goal.at.climb-requires c).After-count_numbers) c.count_numbers.ensures)
