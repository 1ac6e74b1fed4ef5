-- `twins_above` goes through the corner triangles, three at a turn, and then through the middle ones; the level that it reads stands
-- untouched before what it writes.
use Prim.Native.Nat.{ℕ, ◌+◌, ◌*◌, ◌/◌}
use mathlib.Core.Path.{◌≡◌, refl}
use mathlib.Core.List.{List}
use native.Mathlib.Omega.{arith}
use Rattle.halfedges.specs.Cage.{NEXT}
use Rattle.splitting.proofs.Triangles.{TwinsFilled, filled-start, twins_on, twins_done}
use Rattle.splitting.proofs.Descent.{way_round, quarter_whole, corner_there, corner_on, middle_there}
use Rattle.splitting.proofs.above.twins_above.Goals as goal
use Rattle.splitting.proofs.above.twins_above.Goals.{After-put_corner, After-put_corner-in-loop-triangle, In-loop-triangle, Start}

-- where the function started
module _ (s : Start) where
  abbrev quarter : ℕ
  quarter = s.args.level.halfedges / 4

  abbrev SoFar : List ℕ → ℕ → Type 0
  SoFar = TwinsFilled s.args.level.halfedges s.args.at s.args.twin.now

-- a turn of the first loop: the twin across of its first corner triangle
module _ (i : In-loop-triangle) where
  abbrev start : Start
  start = (goal.at.In-loop-triangle i).Start

  abbrev corner : ℕ
  corner = 3 * i.loop-triangle.triangle

  round : let across = 3 * quarter start + corner in (across + 1 ≡ NEXT across) × (across + 2 ≡ NEXT (across + 1)) × (across ≡ NEXT (across + 2))
  round = way_round (3 * quarter start + corner) (omega arith)

-- what is filled in after the first and the second of the three
one : (c : After-put_corner) → SoFar (goal.at.After-put_corner c).Start c.put_corner.new.twin (3 * (3 * c.loop-triangle.triangle + 1))
one c = corner_on (goal.at.After-put_corner c).Start.requires c.loop-triangle.invariant (omega arith) c.put_corner.ensures refl

two : (c : After-put_corner-in-loop-triangle) → SoFar (goal.at.After-put_corner-in-loop-triangle c).Start c.put_corner-in-loop-triangle.new.twin (3 * (3 * c.loop-triangle.triangle + 2))
two c = corner_on (goal.at.After-put_corner-in-loop-triangle c).Start.requires (one (goal.at.After-put_corner-in-loop-triangle c).After-put_corner) (omega arith) c.put_corner-in-loop-triangle.ensures (omega arith)

pub loop-triangle-init : goal.loop-triangle-init
loop-triangle-init c = filled-start c.requires.0

pub put_corner-requires-clause-corner_triangle : goal.put_corner-requires-clause-corner_triangle
put_corner-requires-clause-corner_triangle c =
    corner_there c.requires c.loop-triangle.invariant (omega arith) _ refl (round (goal.at.put_corner-requires-clause-corner_triangle c).In-loop-triangle).0

pub put_corner-requires-in-loop-triangle-clause-corner_triangle : goal.put_corner-requires-in-loop-triangle-clause-corner_triangle
put_corner-requires-in-loop-triangle-clause-corner_triangle c =
    corner_there c.requires (one (goal.at.put_corner-requires-in-loop-triangle-clause-corner_triangle c).After-put_corner) (omega arith) _ (omega arith) (round (goal.at.put_corner-requires-in-loop-triangle-clause-corner_triangle c).In-loop-triangle).1

pub put_corner-requires-in-loop-triangle-2-clause-corner_triangle : goal.put_corner-requires-in-loop-triangle-2-clause-corner_triangle
put_corner-requires-in-loop-triangle-2-clause-corner_triangle c =
    corner_there c.requires (two (goal.at.put_corner-requires-in-loop-triangle-2-clause-corner_triangle c).After-put_corner-in-loop-triangle) (omega arith) _ (omega arith) (round (goal.at.put_corner-requires-in-loop-triangle-2-clause-corner_triangle c).In-loop-triangle).2

pub loop-triangle-preserved : goal.loop-triangle-preserved
loop-triangle-preserved c =
    corner_on c.requires (two (goal.at.loop-triangle-preserved c).After-put_corner-in-loop-triangle) (omega arith) c.put_corner-in-loop-triangle-2.ensures (omega arith)

pub put_middle-requires-clause-middle_triangle : goal.put_middle-requires-clause-middle_triangle
put_middle-requires-clause-middle_triangle c = middle_there c.requires c.loop-triangle-2.invariant (omega arith)

pub loop-triangle-2-preserved : goal.loop-triangle-2-preserved
loop-triangle-2-preserved c = twins_on c.loop-triangle-2.invariant (omega arith) refl refl c.put_middle.ensures (omega arith)

pub returns : goal.returns
returns c = twins_done c.loop-triangle-2.invariant (omega (arith, quarter_whole c.requires.0 c.requires.2))
