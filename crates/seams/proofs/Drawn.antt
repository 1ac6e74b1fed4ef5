-- What the fifth pass leaves: from the next level's points without inner creases it makes those with them, `drawn`, and no other cell
-- changes, `drawn_only`. Assumes nothing.
use Prim.Native.Nat.{ℕ, ◌+◌, ◌-◌, ◌*◌, ◌/◌, ◌%◌, ◌≤◌, ◌<◌}
use mathlib.Core.Path.{◌≡◌}
use mathlib.Core.List.{List, []}
use native.Mathlib.Decide.{dec_lt}
use native.Mathlib.Nat.{le_refl}
use native.Mathlib.Omega.{arith}
use lib.IntN.{ℤ, pos, nat_abs}
use lib.ListN.{length}
use borrow.Author.Tests.{lt-ltb, le-ltb}
use Rattle.laws.specs.Internal.Steps.{steps}
use Rattle.laws.proofs.Tabulate.{length-tabulate, get_d_tabulate}
use Rattle.halfedges.specs.declared.table.HalfedgeTable.{HalfedgeTable}
use Rattle.tables.specs.Tables.{Tables}
use Rattle.points.specs.declared.weights.Weight.{Weight}
use Rattle.points.specs.NextPoints.{new_point, next_points}
use Rattle.points.specs.Operations.{most_coordinate, InRange}
use Rattle.points.specs.Internal.Cells.{value}
use Rattle.points.proofs.Only.{Only}
use Rattle.points.proofs.Range.{next_in_range}
use Rattle.seams.specs.Internal.Seams.{seam}
use Rattle.seams.proofs.Turns.{Seams, after_only}
use Rattle.seams.proofs.DrawnEdges.{edge_drawn}
use Rattle.seams.proofs.DrawnVertices.{vertex_drawn}

module _ (t : HalfedgeTable) (c : Tables) (creases : List ℕ) (level : ℕ) (counts sharp : List ℕ) (points m : List ℤ) (seams : Seams t c creases level counts sharp points m) where
  abbrev n : ℕ
  n = t.vertices

  abbrev last : List ℤ
  last = steps (length c.vert) (seam creases level counts c.vert c.edge n m) m

  pub drawn_only : Only (3 * n) (6 * n + 3 * t.edges) m last
  drawn_only = after_only t c creases level counts sharp points m seams (length c.vert) (le_refl _)

  module _ (w : Weight) (range : InRange points) (before : (u k : ℕ) → u < n + t.edges → k < 3 → value m (3 * n + (3 * u + k)) ≡ new_point w t c [] points u k) where
    -- a place that the passes before it left is in range
    small : (u k : ℕ) → u < n + t.edges → k < 3 → nat_abs (value m (3 * n + (3 * u + k))) ≤ most_coordinate
    unfolding next_points
    small u k lu lk =
        let l : 3 * u + k < 3 * (n + t.edges) = omega arith in
        let new : ℕ → ℤ = λ i. new_point w t c [] points (i / 3) (i % 3) in
        let q : (3 * u + k) / 3 ≡ u = omega arith in
        let r : (3 * u + k) % 3 ≡ k = omega arith in
        let is = rw (q, r) at (get_d_tabulate (3 * (n + t.edges)) new (3 * u + k) (pos 0) l) in
        rw (before u k lu lk, ← is) (next_in_range w t c seams.relied [] points range (3 * u + k) (rw (length-tabulate (3 * (n + t.edges)) new) l))

    pub drawn : (u k : ℕ) → u < n + t.edges → k < 3 → value last (3 * n + (3 * u + k)) ≡ new_point w t c sharp points u k
    unfolding new_point
    drawn u k lu lk = by (dec_lt u n) (before u k lu lk) (small u k lu lk)
      where
        by : Dec (u < n) → value m (3 * n + (3 * u + k)) ≡ new_point w t c [] points u k → nat_abs (value m (3 * n + (3 * u + k))) ≤ most_coordinate → value last (3 * n + (3 * u + k)) ≡ new_point w t c sharp points u k
        by (yes lv) was place =
            let e : 3 * n + (3 * u + k) ≡ 3 * n + 3 * u + k = omega arith in
            rw (e, lt-ltb u n lv) (vertex_drawn t c creases level counts sharp points m seams u k lv lk w range (rw (e, lt-ltb u n lv) at was) (rw e at place))
        by (no lv) was place =
            let e : 3 * n + (3 * u + k) ≡ 6 * n + 3 * (u - n) + k = omega (arith, lv) in
            rw (e, le-ltb u n (omega (arith, lv))) (edge_drawn t c creases level counts sharp points m seams (u - n) k (omega (arith, lv)) lk (rw (e, le-ltb u n (omega (arith, lv))) at was))
