-- `put_edge` stores one number, by whether the halfedge is its edge's lowest.
use mathlib.Core.Path.{◌≡◌, refl}
use mathlib.Core.Bool.{true, false}
use native.Mathlib.Omega.{arith}
use Rattle.triangles.specs.Plain.{is_lowest}
use Rattle.triangles.proofs.Numbering.{is_lowest_lem, not_lowest}
use Rattle.triangles.proofs.edges.put_edge.Goals as goal

pub returns-then-halfedge-other : goal.returns-then-halfedge-other
returns-then-halfedge-other c =
    let e : is_lowest c.args.twin.now c.args.halfedge ≡ true = is_lowest_lem _ _ (omega (arith, c.if-halfedge-other.true)) in
    record { value = rw e refl; edge_after = rw e refl }

pub returns : goal.returns
returns c =
    let e : is_lowest c.args.twin.now c.args.halfedge ≡ false = not_lowest _ _ (omega (arith, c.requires.halfedge_lt_most_halfedges.0)) (omega (arith, c.if-halfedge-other.false)) in
    record { value = rw e (omega arith); edge_after = rw e refl }
