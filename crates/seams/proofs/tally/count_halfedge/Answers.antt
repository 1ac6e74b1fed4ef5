-- `count_halfedge` adds what its definition does, by whether the halfedge has a twin and whether its edge stays sharp.
use mathlib.Core.Path.{◌≡◌, sym, ◌∙◌}
use native.Mathlib.Omega.{arith}
use lib.Dec.{ltb}
use Rattle.halfedges.specs.Cage.{cell}
use Rattle.seams.proofs.Counted.{border-added, sharp_added, none_added}
use Rattle.seams.proofs.tally.count_halfedge.Goals as goal
use Rattle.seams.proofs.tally.count_halfedge.Goals.{After-stays_sharp, Else-cage-halfedge, Start}

-- what the test of the edge's number tells
module _ (a : After-stays_sharp) where
  abbrev e : Else-cage-halfedge
  e = (goal.at.After-stays_sharp a).Else-cage-halfedge

  abbrev s : Start
  s = (goal.at.Else-cage-halfedge e).Start

  sharp_is : ltb s.args.level (cell s.args.creases.now (cell s.args.cage.now.edge.now s.args.halfedge)) ≡ a.stays_sharp.result
  sharp_is = sym a.stays_sharp.ensures

pub returns-then-cage-halfedge : goal.returns-then-cage-halfedge
returns-then-cage-halfedge c = border-added _ _ _ _ _ c.if-cage-halfedge.true c.count_ends.ensures

pub count_one-requires : goal.count_one-requires
count_one-requires c = λ l. omega (arith, (s (goal.at.count_one-requires c).After-stays_sharp).requires.2 _ l)

pub returns-then-stays_sharp : goal.returns-then-stays_sharp
returns-then-stays_sharp c =
    sharp_added _ _ _ _ _ (e (goal.at.returns-then-stays_sharp c).After-stays_sharp).if-cage-halfedge.false (sharp_is (goal.at.returns-then-stays_sharp c).After-stays_sharp ∙ c.if-stays_sharp.true) c.count_one.ensures

pub returns-else-stays_sharp : goal.returns-else-stays_sharp
returns-else-stays_sharp c = none_added _ _ _ _ _ (e (goal.at.returns-else-stays_sharp c).After-stays_sharp).if-cage-halfedge.false (sharp_is (goal.at.returns-else-stays_sharp c).After-stays_sharp ∙ c.if-stays_sharp.false)
