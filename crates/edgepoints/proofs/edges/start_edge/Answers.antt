-- `start_edge` changes three cells, each by its own coordinate.
use native.Mathlib.Omega.{arith}
use borrow.Author.Rules.{rules}
use Rattle.points.proofs.Only.{changed_is, near_stored, near_kept}
use Rattle.edgepoints.proofs.edges.start_edge.Goals as goal

pub change_point-requires : goal.change_point-requires
change_point-requires c = record { room = c.requires.1; callable = λ k b. (λ s p g r. omega arith, λ s p g r. b, λ s p g r h. omega arith, λ s p g r h. b, λ s p g r h i. omega arith, λ s p g r h i. b, λ s p g r h i j u. (near_kept _ c.requires.0.from_near k b, near_kept _ c.requires.0.to_near k b, near_kept _ c.requires.0.opposite_near k b)) }

pub returns : goal.returns
returns c = changed_is _ c.change_point.ensures (λ k b z e. search (rules, e, near_stored _ c.requires.0.from_near k b, near_stored _ c.requires.0.to_near k b, near_stored _ c.requires.0.opposite_near k b))
