-- `number_cell` makes the definition's test.
use borrow.Author.Tests.{lt-ltb, le-ltb}
use Rattle.answers.proofs.number_cell.Goals as goal

pub returns-then-number-lt4294967296 : goal.returns-then-number-lt4294967296
returns-then-number-lt4294967296 c = rw (lt-ltb _ _ c.if-number-lt4294967296.true)

pub returns : goal.returns
returns c = rw (le-ltb _ _ c.if-number-lt4294967296.false)
