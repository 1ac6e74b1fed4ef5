-- `add_four` takes the three corners' turns, each on what the one before left, with points read before the first.
use Prim.Native.Nat.{ℕ}
use mathlib.Core.Path.{◌≡◌, refl}
use mathlib.Core.List.{List}
use lib.IntN.{ℤ}
use Rattle.points.specs.NextPoints.{point_of}
use Rattle.spokes.specs.declared.fours.Four.{Four}
use Rattle.spokes.specs.Internal.Fours.{add_four}
use Rattle.spokes.proofs.CornerAdded.{corner_on}
use Rattle.spokes.proofs.FourAdded.{one, two, adds_u, adds_v, adds_w}
use Rattle.spokes.proofs.fours.add_four.Goals as goal
use Rattle.spokes.proofs.fours.add_four.Goals.{After-add_corner, After-add_corner-2, After-point_of-at_c, Start}

-- the points that were read
module _ (o : After-point_of-at_c) where
  abbrev start : Start
  start = (goal.at.After-point_of-at_c o).Start

  abbrev n : ℕ
  n = start.args.vertices

  abbrev f : Four
  f = start.args.four

  abbrev l : List ℤ
  l = start.args.points.now

  is_u : o.point_of-at_u.result ≡ point_of l f.u
  is_u = o.point_of-at_u.ensures

  is_v : o.point_of-at_v.result ≡ point_of l f.v
  is_v = o.point_of-at_v.ensures

  is_w : o.point_of-at_w.result ≡ point_of l f.w
  is_w = o.point_of-at_w.ensures

  is_a : o.point_of-at_a.result ≡ point_of l f.a
  is_a = o.point_of-at_a.ensures

  is_b : o.point_of-at_b.result ≡ point_of l f.b
  is_b = o.point_of-at_b.ensures

  is_c : o.point_of-at_c.result ≡ point_of l f.c
  is_c = o.point_of-at_c.ensures

-- the table after each corner but the last
is_one : (k : After-add_corner) → k.add_corner.new.points ≡ one (n (goal.at.After-add_corner k).After-point_of-at_c) (f (goal.at.After-add_corner k).After-point_of-at_c) (l (goal.at.After-add_corner k).After-point_of-at_c)
is_one k = corner_on _ _ _ (is_u (goal.at.After-add_corner k).After-point_of-at_c) (is_a (goal.at.After-add_corner k).After-point_of-at_c) (is_b (goal.at.After-add_corner k).After-point_of-at_c) refl k.add_corner.ensures

is_two : (k : After-add_corner-2) → k.add_corner-2.new.points ≡ two (n (goal.at.After-add_corner-2 k).After-point_of-at_c) (f (goal.at.After-add_corner-2 k).After-point_of-at_c) (l (goal.at.After-add_corner-2 k).After-point_of-at_c)
is_two k =
    corner_on _ _ _ (is_v (goal.at.After-add_corner-2 k).After-point_of-at_c) (is_b (goal.at.After-add_corner-2 k).After-point_of-at_c) (is_c (goal.at.After-add_corner-2 k).After-point_of-at_c) (is_one (goal.at.After-add_corner-2 k).After-add_corner) k.add_corner-2.ensures

pub add_corner-requires : goal.add_corner-requires
add_corner-requires c = adds_u _ _ _ (start (goal.at.add_corner-requires c).After-point_of-at_c).requires (is_u (goal.at.add_corner-requires c).After-point_of-at_c) (is_a (goal.at.add_corner-requires c).After-point_of-at_c) (is_b (goal.at.add_corner-requires c).After-point_of-at_c)

pub add_corner-requires-2 : goal.add_corner-requires-2
add_corner-requires-2 c = adds_v _ _ _ (start (goal.at.add_corner-requires-2 c).After-point_of-at_c).requires (is_v (goal.at.add_corner-requires-2 c).After-point_of-at_c) (is_b (goal.at.add_corner-requires-2 c).After-point_of-at_c) (is_c (goal.at.add_corner-requires-2 c).After-point_of-at_c) (is_one (goal.at.add_corner-requires-2 c).After-add_corner)

pub add_corner-requires-3 : goal.add_corner-requires-3
add_corner-requires-3 c = adds_w _ _ _ (start (goal.at.add_corner-requires-3 c).After-point_of-at_c).requires (is_w (goal.at.add_corner-requires-3 c).After-point_of-at_c) (is_c (goal.at.add_corner-requires-3 c).After-point_of-at_c) (is_a (goal.at.add_corner-requires-3 c).After-point_of-at_c) (is_two (goal.at.add_corner-requires-3 c).After-add_corner-2)

pub returns : goal.returns
unfolding add_four
returns c =
    corner_on _ _ _ (is_w (goal.at.returns c).After-point_of-at_c) (is_c (goal.at.returns c).After-point_of-at_c) (is_a (goal.at.returns c).After-point_of-at_c) (is_two (goal.at.returns c).After-add_corner-2) c.add_corner-3.ensures
