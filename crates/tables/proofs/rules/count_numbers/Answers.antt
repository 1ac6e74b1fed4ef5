-- `count_numbers` counts the numbers one by one; no count is above the number of cells passed.
use mathlib.Core.Path.{◌≡◌, ◌∙◌}
use native.Mathlib.Numerals.{add-one}
use native.Mathlib.Omega.{arith}
use lib.ListN.{length}
use Rattle.laws.proofs.Counts.{count_at_most}
use Rattle.halfedges.specs.Cage.{cell}
use Rattle.tables.specs.Tables.{leaves}
use Rattle.tables.proofs.rules.count_numbers.Goals as goal

pub loop-number-init : goal.loop-number-init
loop-number-init c = c.requires.1

pub count_one-requires : goal.count_one-requires
count_one-requires c = λ l. let i = c.loop-number in omega (arith, c.requires.0, i.invariant.each _ l, count_at_most i.number-index (leaves c.args.table.now (cell c.args.table.now i.number-index)))

pub loop-number-preserved : goal.loop-number-preserved
loop-number-preserved c =
    let i = c.loop-number in
    record { each = λ x l. c.count_one.ensures x (omega arith) ∙ rw add-one (omega (arith, i.invariant.each x (omega arith))) }

pub returns : goal.returns
returns c = let e : c.loop-number.number-index ≡ length c.args.table.now = omega arith in rw (← e) c.loop-number.invariant
