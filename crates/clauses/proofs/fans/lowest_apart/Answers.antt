-- `lowest_apart` goes up to the first corner without a mark.
use mathlib.Core.Path.{◌≡◌, sym, ◌∙◌}
use mathlib.Core.Bool.{false}
use native.Mathlib.Omega.{arith}
use lib.ListN.{length}
use borrow.Author.Count.{below_more}
use borrow.Author.Tests.{eq-eqb, ne_eqb}
use Rattle.laws.proofs.Lowest.{lowest_is, lowest_none}
use Rattle.clauses.specs.Clauses.{apart}
use Rattle.clauses.proofs.Apart.{apart_other, apart-mark}
use Rattle.clauses.proofs.fans.lowest_apart.Goals as goal
use Rattle.clauses.proofs.fans.lowest_apart.Goals.{else-vert-halfedge-via-then-vert-halfedge+else-marks-halfedge-eq0, else-vert-halfedge-via-else-vert-halfedge}

pub returns-then-marks-halfedge-eq0 : goal.returns-then-marks-halfedge-eq0
returns-then-marks-halfedge-eq0 c =
    let i = c.loop-halfedge in
    let here = apart-mark c.args.twin.now c.args.vert.now c.args.vertex c.args.corner i.halfedge c.if-vert-halfedge.true (c.requires.0.each _ (omega (arith, c.requires.1))) in
    sym (lowest_is _ (apart _ _ _ _) i.halfedge c.loop-halfedge-test.true (sym here ∙ eq-eqb _ _ c.if-marks-halfedge-eq0.true) i.invariant)

pub loop-halfedge-preserved : goal.loop-halfedge-preserved
loop-halfedge-preserved c =
    let i = c.loop-halfedge in
    let p = c.args in
    let not_here : apart p.twin.now p.vert.now p.vertex p.corner i.halfedge ≡ false =
    elim c.else-vert-halfedge.branch [
      | else-vert-halfedge-via-then-vert-halfedge+else-marks-halfedge-eq0 w ↦ sym (apart-mark _ _ _ _ _ w.if-vert-halfedge.true (c.requires.0.each _ (omega (arith, c.requires.1)))) ∙ ne_eqb _ _ w.if-marks-halfedge-eq0.false
      | else-vert-halfedge-via-else-vert-halfedge w ↦ sym (apart_other _ _ _ _ _ w.if-vert-halfedge.false)
    ] in
    below_more (λ k. apart _ _ _ _ k ≡ _) _ i.invariant not_here

pub returns : goal.returns
returns c = omega (arith, lowest_none (length c.args.vert.now) (apart c.args.twin.now c.args.vert.now c.args.vertex c.args.corner) (λ k l. c.loop-halfedge.invariant k (omega arith)))
