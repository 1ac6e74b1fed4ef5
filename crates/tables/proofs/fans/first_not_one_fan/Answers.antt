-- `first_not_one_fan` goes up to the first vertex whose kept corner has a fan of another size than the tally says.
use mathlib.Core.Path.{◌≡◌, sym, ap}
use mathlib.Core.Bool.{not}
use native.Mathlib.Omega.{arith}
use lib.Dec.{eqb}
use borrow.Author.Tests.{eq-eqb, ne_eqb}
use Rattle.halfedges.specs.Cage.{cell}
use Rattle.tables.specs.Fans.{not_one_fan}
use Rattle.tables.specs.Internal.Walks.{Corner}
use Rattle.tables.proofs.Upto.{upto_none, upto_more, upto_found, upto_all}
use Rattle.tables.proofs.Corners.{fan_counted, kept_corner}
use Rattle.tables.proofs.fans.first_not_one_fan.Goals as goal
use Rattle.tables.proofs.fans.first_not_one_fan.Goals.{After-fan_size-size, In-loop-vertex}

corner : (c : In-loop-vertex) → Corner c.args.vert.now c.loop-vertex.vertex (cell c.args.kept.now c.loop-vertex.vertex)
corner c =
    kept_corner _ _ _ c.requires.1.corner c.requires.0.used c.loop-vertex.vertex c.loop-vertex-test.true

-- what is compared is rule 7
says : (c : After-fan_size-size) → not_one_fan c.args.twin.now c.args.vert.now c.loop-vertex.vertex ≡ not (eqb c.fan_size-size.result (cell c.args.corners.now c.loop-vertex.vertex))
says c =
    rw (c.fan_size-size.ensures, c.requires.1.tally.counted.each c.loop-vertex.vertex (omega arith))
    (fan_counted _ _ _ c.requires.0.walkable c.requires.0.long c.requires.0.placed c.loop-vertex.vertex _ (corner (goal.at.After-fan_size-size c).In-loop-vertex))

pub loop-vertex-init : goal.loop-vertex-init
loop-vertex-init c = upto_none _

pub fan_size-size-requires : goal.fan_size-size-requires
fan_size-size-requires c =
    (c.requires.0.walkable, omega (arith, c.requires.0.long, (corner (goal.at.fan_size-size-requires c).In-loop-vertex).below))

pub returns-then-size-corners : goal.returns-then-size-corners
returns-then-size-corners c =
    upto_found c.loop-vertex.invariant (sym (says (goal.at.returns-then-size-corners c).After-fan_size-size)) _ (omega arith) (ap not (ne_eqb _ _ c.if-size-corners.true))

pub loop-vertex-preserved : goal.loop-vertex-preserved
loop-vertex-preserved c =
    upto_more c.loop-vertex.invariant (sym (says (goal.at.loop-vertex-preserved c).After-fan_size-size)) (ap not (eq-eqb _ _ c.if-size-corners.false))

pub returns : goal.returns
returns c = upto_all _ c.loop-vertex.invariant (omega arith)
