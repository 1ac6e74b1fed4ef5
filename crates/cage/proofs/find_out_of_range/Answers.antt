-- `find_out_of_range` goes up to the first coordinate that is out of range.
use mathlib.Core.Path.{◌≡◌, sym, ◌∙◌}
use mathlib.Core.Bool.{false}
use native.Mathlib.Omega.{arith}
use lib.IntN.{pos}
use lib.ListN.{length, get_or}
use mir.Syntax.{w32}
use borrow.Author.Count.{below_none, below_more}
use Rattle.laws.proofs.Integers.{back_of}
use Rattle.halfedges.specs.Refusals.{POINT}
use Rattle.halfedges.proofs.Checks.{given_here, clean_done}
use Rattle.points.specs.Operations.{out_of_range}
use Rattle.cage.proofs.find_out_of_range.Goals as goal

pub loop-place-init : goal.loop-place-init
loop-place-init c = below_none (λ k. out_of_range _ k ≡ _)

pub returns-then-out_of_range : goal.returns-then-out_of_range
unfolding out_of_range
returns-then-out_of_range c =
    let i = c.loop-place in
    let l = c.args.points.now in
    let t = rw (back_of w32 (get_or l i.place (pos 0)) c.out_of_range-arg-1.given) at c.out_of_range.ensures in
    sym (given_here (length l) (out_of_range l) POINT i.place (omega arith) (sym t ∙ c.if-out_of_range.true) i.invariant)

pub loop-place-preserved : goal.loop-place-preserved
unfolding out_of_range
loop-place-preserved c =
    let i = c.loop-place in
    let l = c.args.points.now in
    let t = rw (back_of w32 (get_or l i.place (pos 0)) c.out_of_range-arg-1.given) at c.out_of_range.ensures in
    below_more (λ k. out_of_range l k ≡ false) i.place i.invariant (sym t ∙ c.if-out_of_range.false)

pub returns : goal.returns
returns c = sym (clean_done _ _ _ (λ k l. c.loop-place.invariant k (omega arith)))
