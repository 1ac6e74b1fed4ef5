-- `count_one` adds one to one cell, or to none.
use native.Mathlib.Omega.{arith}
use borrow.Author.Tests.{ne_eqb}
use mathlib.Core.Path.{◌≡◌}
use Rattle.laws.proofs.Bumped.{bumped_at}
use Rattle.tables.proofs.rules.count_one.Goals as goal

pub overflow_add-tally : goal.overflow_add-tally
overflow_add-tally c = omega (arith, c.requires c.if-number-tally.true)

pub returns-then-number-tally : goal.returns-then-number-tally
returns-then-number-tally c = λ x _. bumped_at c.args.tally.now c.args.number c.if-number-tally.true x

pub returns-else-number-tally : goal.returns-else-number-tally
returns-else-number-tally c = λ x l. let n : c.args.number ≡ x → ⊥ = λ e. omega arith in rw (ne_eqb _ _ n) (omega arith)
