-- `levels` has each level's counts from `within`, and the three sums.
use native.Mathlib.Omega.{arith}
use borrow.Author.Tests.{le-leb}
use Prim.Native.Nat.{ℕ}
use mathlib.Core.Path.{◌≡◌}
use mathlib.Core.List.{[], ◌∷◌}
use Rattle.halfedges.specs.declared.table.HalfedgeTable.{HalfedgeTable}
use Rattle.halfedges.specs.Internal.Counts.{counts_within}
use Rattle.halfedges.specs.Counts.{counts_at, room_h, room_v, room_e, seven, levels}
use Rattle.halfedges.proofs.table.HalfedgeTable.levels.Goals as goal

-- the levels, one beside the other
laid :
    (t : HalfedgeTable) (depth : ℕ) {a b c d e f : HalfedgeTable} {h v s : ℕ} →
    a ≡ counts_within t depth 1 → b ≡ counts_within t depth 2 → c ≡ counts_within t depth 3 → d ≡ counts_within t depth 4 → e ≡ counts_within t depth 5 → f ≡ counts_within t depth 6 →
    h ≡ room_h t depth → v ≡ room_v t depth → s ≡ room_e t depth →
    record {
      halfedges = t.halfedges ∷ a.halfedges ∷ b.halfedges ∷ c.halfedges ∷ d.halfedges ∷ e.halfedges ∷ f.halfedges ∷ [];
      edges = t.edges ∷ a.edges ∷ b.edges ∷ c.edges ∷ d.edges ∷ e.edges ∷ f.edges ∷ [];
      vertices = t.vertices ∷ a.vertices ∷ b.vertices ∷ c.vertices ∷ d.vertices ∷ e.vertices ∷ f.vertices ∷ [];
      halfedge_room = h;
      vertex_room = v;
      edge_room = s;
    } ≡ levels t depth
unfolding levels seven counts_at
laid t depth a b c d e f h v s = rw (a, b, c, d, e, f, h, v, s, le-leb 0 depth (omega arith))

pub returns : goal.returns
returns c =
    laid c.args.self c.args.depth c.within-one.ensures c.within-two.ensures c.within-three.ensures c.within-four.ensures c.within-five.ensures
    c.within-six.ensures c.halfedge_room.ensures c.vertex_room.ensures c.edge_room.ensures
