-- `put_numbers` keeps the numbers put so far in front of what the part held past them.
use borrow.Author.Rules.{rules}
use mathlib.Core.Path.{◌≡◌, refl, ◌∙◌}
use mathlib.Core.List.{flat_map}
use native.Mathlib.Omega.{arith}
use lib.ListN.{length}
use lib.Seq.{take-length}
use Rattle.laws.proofs.Filling.{chunk_next}
use Rattle.cagefile.specs.Numbers.{u16}
use Rattle.writing.proofs.put_numbers.Goals as goal

pub loop-halfedge-init : goal.loop-halfedge-init
unfolding flat_map
loop-halfedge-init c = search rules

pub loop-halfedge-preserved : goal.loop-halfedge-preserved
loop-halfedge-preserved c =
    (c.put_number.ensures ∙ chunk_next u16 2 (λ _. refl) _ _ _ 0 _ c.loop-halfedge-test.true c.loop-halfedge.invariant)

pub returns : goal.returns
returns c =
    let e : c.loop-halfedge.halfedge ≡ length c.args.table.now = omega arith in
    simp take-length at (rw e at c.loop-halfedge.invariant)
