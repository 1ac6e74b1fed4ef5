-- `gather` goes by whether there is a level before.
use borrow.Author.Tests.{eq-eqb, ne_eqb}
use Rattle.spokes.specs.Internal.Spokes.{gathered}
use Rattle.spokes.proofs.spokes.gather.Goals as goal

pub returns-then-before-eq0 : goal.returns-then-before-eq0
unfolding gathered
returns-then-before-eq0 c = rw (eq-eqb c.args.before 0 c.if-before-eq0.true) c.add_spokes.ensures

pub add_fours-requires : goal.add_fours-requires
add_fours-requires c = (c.requires.0, c.requires.1 c.if-before-eq0.false)

pub returns : goal.returns
unfolding gathered
returns c = rw (ne_eqb c.args.before 0 c.if-before-eq0.false) c.add_fours.ensures
