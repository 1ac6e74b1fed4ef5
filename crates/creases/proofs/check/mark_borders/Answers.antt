-- `mark_borders` has marked the border edges of the halfedges passed.
use borrow.Author.Rules.{rules}
use native.Mathlib.Omega.{arith}
use Rattle.creases.proofs.Borders.{marked_on, marked_all}
use Rattle.creases.proofs.check.mark_borders.Goals as goal

pub loop-halfedge-init : goal.loop-halfedge-init
loop-halfedge-init c = c.requires.1

pub mark_edge-requires : goal.mark_edge-requires
mark_edge-requires c =
    let p = c.requires.0 in
    (record { same = p.same; below = λ h l. omega (arith, c.loop-halfedge.auto.borders, p.below h l) }, omega arith)

pub loop-halfedge-preserved : goal.loop-halfedge-preserved
loop-halfedge-preserved c =
    marked_on _ _ (search rules) c.loop-halfedge.invariant c.mark_edge.ensures

pub returns : goal.returns
returns c = marked_all _ _ (omega arith) c.loop-halfedge.invariant
