-- `count_and_draw` lists the creases of the cage's vertices by a tally of the cage's tables.
use Prim.Native.Nat.{◌≤◌}
use mathlib.Core.Path.{sym, ap, ◌∙◌}
use lib.ListN.{length}
use lib.Seq.{length-take-le}
use borrow.Author.Rules.{rules}
use Rattle.tables.specs.Tables.{held}
use Rattle.seams.proofs.Counted.{counted_lists}
use Rattle.passes.specs.Internal.Levels.{cage_of, with_seams}
use Rattle.passes.proofs.refine.count_and_draw.Goals as goal
use Rattle.passes.proofs.refine.count_and_draw.Goals.{After-count_creases, Start}

-- the tally, once the creases are counted
module _ (k : After-count_creases) where
  abbrev s : Start
  s = (goal.at.After-count_creases k).Start

  enough : s.args.cage.now.counts.vertices ≤ length k.count_creases.new.counts
  enough = let small = s.requires.0.few in search rules

pub slice_bounds-count_creases-end : goal.slice_bounds-count_creases-end
slice_bounds-count_creases-end c = sym (length-take-le c.args.cage.now.counts.halfedges c.args.tables.now.twin.now c.requires.0.in_twin)

pub slice_bounds-count_creases-end-2 : goal.slice_bounds-count_creases-end-2
slice_bounds-count_creases-end-2 c = sym (length-take-le c.args.cage.now.counts.halfedges c.args.tables.now.vert.now c.requires.0.in_vert)

pub slice_bounds-count_creases-end-3 : goal.slice_bounds-count_creases-end-3
slice_bounds-count_creases-end-3 c = sym (length-take-le c.args.cage.now.counts.halfedges c.args.tables.now.edge.now c.requires.0.in_edge)

pub slice_bounds-draw_level-end : goal.slice_bounds-draw_level-end
slice_bounds-draw_level-end c = sym (length-take-le (s (goal.at.slice_bounds-draw_level-end c).After-count_creases).args.cage.now.counts.vertices c.count_creases.new.counts (enough (goal.at.slice_bounds-draw_level-end c).After-count_creases))

pub returns : goal.returns
returns c =
    let a = (s (goal.at.returns c).After-count_creases).args in
    c.draw_level.ensures
    ∙ ap (λ counts. with_seams a.cage.now.creases.now counts a.level (held a.tables.now) a.points.now)
    (counted_lists a.level.number (cage_of a.cage.now.counts (held a.tables.now)) a.cage.now.creases.now a.cage.now.counts.vertices c.count_creases.new.counts (enough (goal.at.returns c).After-count_creases) c.count_creases.ensures)
