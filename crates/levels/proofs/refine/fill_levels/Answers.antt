-- `fill_levels` goes from level to level, each of which stands after those before it.
use mathlib.Core.Path.{◌≡◌, ap, ◌∙◌}
use native.Mathlib.Omega.{arith}
use Rattle.levels.proofs.Stages.{stage, reached_start, reached_small, reached_stands, reached_on, reached_long}
use Rattle.levels.proofs.refine.fill_levels.Goals as goal

pub loop-level-init : goal.loop-level-init
loop-level-init c = reached_start _ _ _ c.requires

pub next_level-requires : goal.next_level-requires
next_level-requires c = reached_stands _ _ _ c.requires c.loop-level.invariant (omega arith)

pub overflow_add-at : goal.overflow_add-at
overflow_add-at c =
    omega (arith, c.well_formed.0.0, (reached_stands _ _ _ c.requires c.loop-level.invariant (omega arith)).twin.room, (reached_long _ _ _ c.requires c.loop-level.invariant).0)

pub finer-table-requires : goal.finer-table-requires
finer-table-requires c =
    let a = reached_small _ _ _ c.requires c.loop-level.invariant in
    record { halfedges = omega arith; edges = omega arith; vertices = omega arith }

pub loop-level-preserved : goal.loop-level-preserved
loop-level-preserved c = reached_on _ _ _ c.requires c.loop-level.invariant (omega arith) c.next_level.ensures c.finer-table.ensures

pub returns : goal.returns
unfolding stage
returns c =
    let e : c.loop-level._level ≡ c.args.depth = omega (arith) in
    c.loop-level.invariant.so_far ∙ ap (stage _ _) e
