-- `write_creases` writes level after level, each straight after those before it.
use native.Mathlib.Omega.{arith}
use Rattle.creases.proofs.Written.{written_start, written_fits, written_small, written_on, written_long, written_all}
use Rattle.creases.proofs.levels.write_creases.Goals as goal

pub loop-level-init : goal.loop-level-init
loop-level-init c = written_start c.requires

pub write_level-requires : goal.write_level-requires
write_level-requires c =
    written_fits c.requires c.loop-level.invariant c.loop-level-test.true

pub overflow_add-at : goal.overflow_add-at
overflow_add-at c =
    omega (arith, (written_fits c.requires c.loop-level.invariant c.loop-level-test.true).room, written_long c.requires c.loop-level.invariant)

pub finer-table-requires : goal.finer-table-requires
finer-table-requires c =
    let a = written_small c.requires c.loop-level.invariant c.loop-level-test.true in
    record { halfedges = omega arith; edges = omega arith; vertices = omega arith }

pub loop-level-preserved : goal.loop-level-preserved
loop-level-preserved c =
    written_on c.requires c.loop-level.invariant c.loop-level-test.true c.write_level.ensures c.finer-table.ensures

pub returns-2 : goal.returns-2
returns-2 c =
    let last = written_on c.requires c.loop-level.invariant (omega arith) c.write_level.ensures c.finer-table.ensures in
    written_all c.requires last (omega arith)
