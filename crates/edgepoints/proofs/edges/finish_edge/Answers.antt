-- `finish_edge` changes three cells, each by its own coordinate.
use native.Mathlib.Omega.{arith}
use borrow.Author.Rules.{rules}
use mir.Syntax.{w32}
use Rattle.laws.proofs.Integers.{back_of}
use Rattle.points.proofs.Only.{changed_is, near_stored, near_kept}
use Rattle.edgepoints.proofs.edges.finish_edge.Goals as goal

pub change_point-requires : goal.change_point-requires
change_point-requires c = record { room = c.requires.room; callable = λ k b. (λ s p g r. omega arith, λ s p g r. b, λ s p g r h u. (rw (back_of w32 _ g.1.0) (c.requires.begun k b), near_kept _ c.requires.near k b)) }

pub returns : goal.returns
returns c = changed_is _ c.change_point.ensures (λ k b z e. search (rules, e, near_stored _ c.requires.near k b))
