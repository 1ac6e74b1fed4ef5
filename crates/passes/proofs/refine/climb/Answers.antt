-- `climb` adds one level a turn.
use mathlib.Core.Path.{◌≡◌, refl, ap, ◌∙◌}
use native.Mathlib.Omega.{arith}
use Rattle.tables.specs.Tables.{held}
use Rattle.passes.specs.Internal.Levels.{with_levels}
use Rattle.passes.proofs.Climbed.{climb_start, climb_asks, climb_fits, climb_on}
use Rattle.passes.proofs.refine.climb.Goals as goal

pub loop-init : goal.loop-init
loop-init c = climb_start c.args.cage.now.weight _ _ _ _ _ c.requires.0 refl

pub refine_level-requires : goal.refine_level-requires
refine_level-requires c =
    rw c.requires.1 (climb_asks c.args.cage.now.weight _ _ _ _ _ c.requires.0 c.loop.invariant (omega (arith, c.loop.invariant.is_left)))

pub next-level-requires : goal.next-level-requires
next-level-requires c =
    climb_fits c.args.cage.now.weight _ _ _ _ _ c.requires.0 c.loop.invariant (omega (arith, c.loop.invariant.is_left)) (omega arith) (omega arith)

pub loop-preserved : goal.loop-preserved
loop-preserved c =
    climb_on c.args.cage.now.weight _ _ _ _ _ c.requires.0 c.loop.invariant (omega (arith, c.loop.invariant.is_left)) c.next-level.ensures c.refine_level.ensures

pub returns : goal.returns
returns c =
    let e : c.loop.counter ≡ c.args.depth = omega arith in
    c.loop.invariant.is_table
    ∙ ap (λ d. with_levels c.args.cage.now.weight c.args.cage.now.counts d (held c.args.tables.now) c.args.cage.now.creases.now c.args.points.now) e
