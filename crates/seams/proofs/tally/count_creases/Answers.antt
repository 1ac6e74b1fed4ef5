-- `count_creases` has counted the creases of the halfedges passed.
use borrow.Author.Rules.{rules}
use native.Mathlib.Omega.{arith}
use lib.ListN.{length}
use Rattle.std.proofs.lemmas.List.{get_or-replicate}
use Rattle.seams.proofs.Counted.{tallied_none, tallied_on, tallied_few, tallied_all}
use Rattle.seams.proofs.tally.count_creases.Goals as goal

pub loop-halfedge-init : goal.loop-halfedge-init
loop-halfedge-init c = tallied_none _ _ _ (λ u l. rw (c.fill.ensures.after (λ y e. e)) (get_or-replicate (length c.args.counts.now) u 0 0 (omega (arith, l, c.fill.ensures.len))))

pub count_halfedge-requires : goal.count_halfedge-requires
count_halfedge-requires c =
    (c.requires, c.loop-halfedge-test.true, tallied_few _ _ _ (omega (arith, c.requires.few)) c.loop-halfedge.invariant)

pub loop-halfedge-preserved : goal.loop-halfedge-preserved
loop-halfedge-preserved c =
    tallied_on _ _ _ (search rules) c.loop-halfedge.invariant c.count_halfedge.ensures

pub returns : goal.returns
returns c = tallied_all _ _ _ (omega arith) c.loop-halfedge.invariant
