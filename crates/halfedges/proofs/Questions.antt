-- Each outcome of the count question and of the corner question, by the tests that lead to it. Assumes nothing.
use Prim.Native.Nat.{ℕ, ◌+◌, ◌*◌, ◌/◌, ◌%◌, ◌≤◌, ◌<◌}
use mathlib.Core.Path.{◌≡◌}
use mathlib.Core.Bool.{true, false, not, ◌||◌}
use mathlib.Core.List.{List}
use native.Mathlib.Omega.{arith}
use lib.Dec.{eqb, ltb, leb}
use lib.ListN.{length}
use borrow.Author.Tests.{ltb-false, leb-false}
use Rattle.laws.proofs.Tests.{or_false₃}
use Rattle.halfedges.specs.declared.table.HalfedgeTable.{HalfedgeTable}
use Rattle.halfedges.specs.Cage.{most_halfedges, most_vertices, most_depth}
use Rattle.halfedges.specs.Refusals.{DONE, SHAPE, LIMIT, given, first, said}
use Rattle.halfedges.specs.Internal.Counts.{AtMost, refused_count}
use Rattle.halfedges.specs.Counts.{levels, count_shape, above_limit, count_question}
use Rattle.halfedges.specs.Corners.{corners, corner_shape, corner_question, no_corners}

-- what refusal 2 leaves
pub limits_kept : (h v depth : ℕ) → above_limit h v depth ≡ false → (h ≤ most_halfedges) × (v ≤ most_vertices) × (depth ≤ most_depth)
unfolding above_limit
limits_kept h v depth l =
    let n = or_false₃ (ltb most_halfedges h) (ltb most_vertices v) (ltb most_depth depth) l in
    (ltb-false most_halfedges h n.0, ltb-false most_vertices v n.1, ltb-false most_depth depth n.2)

-- E ≤ H, which refusal 1 of the count question leaves
few_edges : (t : HalfedgeTable) → count_shape t ≡ false → t.edges ≤ t.halfedges
unfolding count_shape
few_edges t s =
    ltb-false t.halfedges t.edges
    (or_false₃ (eqb t.halfedges 0 || not (eqb (t.halfedges % 3) 0) || eqb t.vertices 0) (ltb t.halfedges t.edges) (ltb (2 * t.edges) t.halfedges) s).1

module _ (t : HalfedgeTable) (depth : ℕ) where
  pub count_shape_lem : count_shape t ≡ true → count_question t depth ≡ refused_count SHAPE
  unfolding count_question said first given
  count_shape_lem s = simp s

  pub count_limit : count_shape t ≡ false → above_limit t.halfedges t.vertices depth ≡ true → count_question t depth ≡ refused_count LIMIT
  unfolding count_question said first given
  count_limit s l = simp (s, l)

  pub count_done : count_shape t ≡ false → above_limit t.halfedges t.vertices depth ≡ false → count_question t depth ≡ record { verdict = DONE; values = levels t depth }
  unfolding count_question said first given
  count_done s l = simp (s, l)

  -- what passes both tests is small
  pub within : count_shape t ≡ false → above_limit t.halfedges t.vertices depth ≡ false → AtMost most_halfedges t × (depth ≤ most_depth)
  within s l =
      let n = limits_kept t.halfedges t.vertices depth l in
      let e : t.edges ≤ t.halfedges = few_edges t s in
      (record { halfedges = omega arith; edges = omega arith; vertices = omega arith }, omega arith)

module _ (vert : List ℕ) (triangle : ℕ) where
  pub corner_shape_lem : corner_shape vert triangle ≡ true → corner_question vert triangle ≡ record { verdict = SHAPE; values = no_corners }
  unfolding corner_question said given
  corner_shape_lem s = simp s

  pub corner_done : corner_shape vert triangle ≡ false → corner_question vert triangle ≡ record { verdict = DONE; values = corners vert triangle }
  unfolding corner_question said given
  corner_done s = simp s

  -- what passes the test is in the table
  pub in_table : corner_shape vert triangle ≡ false → 3 * triangle + 2 < length vert
  unfolding corner_shape
  in_table s =
      let n = or_false₃ (eqb (length vert) 0) (not (eqb (length vert % 3) 0)) (leb (length vert / 3) triangle) s in
      omega (arith, leb-false (length vert / 3) triangle n.2)
