-- What the pass over the spokes leaves: `gathered_only`, `sum_is`; and that no step wraps, `triangle_adds`. Assumes nothing.
use Prim.Native.Nat.{ℕ, zero, suc, ◌+◌, ◌*◌, ◌≤◌, ◌<◌}
use mathlib.Core.Path.{◌≡◌, refl, sym, ap, ◌∙◌}
use mathlib.Core.Bool.{cond}
use mathlib.Core.List.{List}
use native.Mathlib.Omega.{arith}
use lib.IntN.{ℤ, pos, ◌+ℤ◌, +ℤ_idl, +ℤ_idr, +ℤ_assoc}
use lib.ListN.{length}
use borrow.Author.Tests.{eq-eqb}
use Rattle.laws.specs.Below.{count}
use Rattle.laws.specs.Internal.Steps.{steps}
use Rattle.laws.proofs.Steps.{steps_more, steps_three_on}
use Rattle.laws.proofs.Select.{count_before}
use Rattle.halfedges.specs.Cage.{cell}
use Rattle.halfedges.specs.Corners.{corners}
use Rattle.tables.specs.Tables.{leaves}
use Rattle.points.specs.NextPoints.{coordinate, far}
use Rattle.points.specs.Operations.{most_coordinate, InRange}
use Rattle.points.specs.Internal.Relied.{most_corners, Cornered}
use Rattle.points.specs.Internal.Cells.{value}
use Rattle.spokes.specs.Internal.Sums.{Cleared}
use Rattle.spokes.specs.Internal.Spokes.{Adds, add_triangle, AddsTriangle, spoke}
use Rattle.halfedges.proofs.Triangle.{next_0, next_1, next_2}
use Rattle.points.proofs.Ends.{spoke_sum, spokes_at_most, corners-counted, far_below}
use Rattle.laws.proofs.Totals.{scan_more}
use Rattle.points.proofs.Range.{any_in_range}
use Rattle.points.proofs.Only.{Only, only_wider, only_steps}
use Rattle.points.proofs.Holding.{Holds, holds_on, point_of_is}
use Rattle.spokes.proofs.Added.{add_point_only, add_point-sum}

module _ (vert : List ℕ) (n : ℕ) (cornered : Cornered vert n) (l : List ℤ) (room : 6 * n ≤ length l) where
  pub gathered_only : (i : ℕ) → i ≤ length vert → Only (3 * n) (6 * n) l (steps i (spoke vert n) l)
  unfolding spoke
  gathered_only =
      only_steps (3 * n) (6 * n) (length vert) (spoke vert n) l
      (λ h b m e. let below = cornered.below h b in only_wider (3 * n) (6 * n) (omega arith) (omega arith) (add_point_only n (cell vert h) (far vert h) m))

  room_after : (i : ℕ) → i ≤ length vert → 6 * n ≤ length (steps i (spoke vert n) l)
  room_after i b = rw (gathered_only i b).long room

  module _ (points : List ℤ) (holds : Holds n points l) where
    gathered-sum : (v k : ℕ) → v < n → k < 3 → (i : ℕ) → i ≤ length vert → value (steps i (spoke vert n) l) (3 * n + 3 * v + k) ≡ value l (3 * n + 3 * v + k) +ℤ spoke_sum vert points k v i
    unfolding steps spoke
    gathered-sum v k lv lk zero b = sym (+ℤ_idr _)
    gathered-sum v k lv lk (suc i) b =
        let m = steps i (spoke vert n) l in
        let held : coordinate (steps i (spoke vert n) l) k (far vert i) ≡ coordinate points k (far vert i) = (holds_on (omega arith) holds (gathered_only i (omega arith))).same (far vert i) k (far_below vert n cornered i b) lk in
        add_point-sum n (cell vert i) (far vert i) m (omega (arith, room_after i (omega arith), cornered.below i b)) v k lk
        ∙ ap (λ z. value m (3 * n + 3 * v + k) +ℤ cond (leaves vert v i) z (pos 0)) held
        ∙ ap (λ z. z +ℤ cond (leaves vert v i) (coordinate points k (far vert i)) (pos 0)) (gathered-sum v k lv lk i (omega arith))
        ∙ +ℤ_assoc (value l (3 * n + 3 * v + k)) (spoke_sum vert points k v i) (cond (leaves vert v i) (coordinate points k (far vert i)) (pos 0))
        ∙ ap (λ z. value l (3 * n + 3 * v + k) +ℤ z) (sym (scan_more (λ h. coordinate points k (far vert h)) (leaves vert v) i))

    -- from cleared cells, of a level in range
    module _ (range : InRange points) (cleared : Cleared n l) where
      pub sum_is : (v k : ℕ) → v < n → k < 3 → (i : ℕ) → i ≤ length vert → value (steps i (spoke vert n) l) (3 * n + 3 * v + k) ≡ spoke_sum vert points k v i
      sum_is v k lv lk i b =
          let e : 3 * n + (3 * v + k) ≡ 3 * n + 3 * v + k = omega arith in
          gathered-sum v k lv lk i b ∙ ap (λ z. z +ℤ spoke_sum vert points k v i) (rw e at (cleared (3 * v + k) (omega arith))) ∙ +ℤ_idl _

      gathered_adds : (i : ℕ) → i < length vert → Adds n (cell vert i) (far vert i) (steps i (spoke vert n) l)
      gathered_adds i b =
          let la : cell vert i < n = cornered.below i b in
          let lb : far vert i < n = far_below vert n cornered i b in
          let le : i ≤ length vert = omega arith in
          let c : count i (leaves vert (cell vert i)) + 1 ≤ most_corners = one_more in
          record {
            in_b = lb;
            to = record {
              below = la;
              room = room_after i le;
              fits = λ k lk.
                  let s = spokes_at_most vert (cell vert i) points k most_coordinate (λ u. any_in_range points range (3 * u + k)) i in
                  rw (point_of_is (steps i (spoke vert n) l) (far vert i) k lk, sum_is (cell vert i) k la lk i le, (holds_on (omega arith) holds (gathered_only i le)).same (far vert i) k lb lk)
                  (omega (arith, any_in_range points range (3 * far vert i + k)));
            };
          }
        where
          one_more : count i (leaves vert (cell vert i)) + 1 ≤ most_corners
          one_more =
              let few = rw (corners-counted vert (cell vert i)) at (cornered.few (cell vert i) (cornered.below i b)) in
              omega (arith, few, count_before (leaves vert (cell vert i)) i (length vert) b (eq-eqb (cell vert i) (cell vert i) refl))

      -- a triangle at once
      pub triangle_adds : (t : ℕ) → 3 * t + 2 < length vert → AddsTriangle n (corners vert t) (steps (3 * t) (spoke vert n) l)
      unfolding spoke
      triangle_adds t b =
          let e : 3 * t + 2 ≡ 3 * t + 1 + 1 = omega arith in
          let one : steps (3 * t + 1) (spoke vert n) l ≡ spoke vert n (3 * t) (steps (3 * t) (spoke vert n) l) = steps_more (spoke vert n) l (3 * t) in
          let two : steps (3 * t + 2) (spoke vert n) l ≡ spoke vert n (3 * t + 1) (steps (3 * t + 1) (spoke vert n) l) = ap (λ i. steps i (spoke vert n) l) e ∙ steps_more (spoke vert n) l (3 * t + 1) in
          record {
            first = rw (next_0 t) at (gathered_adds (3 * t) (omega arith));
            second = rw (one, next_0 t, next_1 t) at (gathered_adds (3 * t + 1) (omega arith));
            third = rw (two, one, next_0 t, next_1 t, next_2 t) at (gathered_adds (3 * t + 2) b);
          }

-- a triangle's turn, from the corners that the corner question gave
pub triangle_on : (vert : List ℕ) (n : ℕ) (l : List ℤ) (t : ℕ) {r : List ℕ} {y z : List ℤ} → r ≡ corners vert t → y ≡ steps (3 * t) (spoke vert n) l → z ≡ add_triangle n r y → z ≡ steps (3 * (t + 1)) (spoke vert n) l
unfolding add_triangle spoke
triangle_on vert n l t {y = y} c e d = steps_three_on (spoke vert n) l t e (d ∙ ap (λ r. add_triangle n r y) c ∙ rw (next_0 t, next_1 t, next_2 t))
