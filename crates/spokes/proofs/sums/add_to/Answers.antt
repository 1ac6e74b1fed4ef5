-- `add_to` changes three cells, each by its own coordinate.
use native.Mathlib.Omega.{arith}
use borrow.Author.Rules.{rules}
use Rattle.points.proofs.Only.{changed_is}
use Rattle.spokes.specs.Internal.Sums.{add_to}
use Rattle.spokes.proofs.Added.{adds_fits, sum_is}
use Rattle.spokes.proofs.sums.add_to.Goals as goal

pub change_point-requires : goal.change_point-requires
change_point-requires c = record { room = omega (arith, c.requires.room, c.requires.below); callable = λ k b. (λ s p g r. omega arith, λ s p g r. b, λ s p g r h. adds_fits c.requires k b) }

pub returns : goal.returns
unfolding add_to
returns c = changed_is _ c.change_point.ensures (λ k b z e. search (rules, sum_is c.requires k b, e))
