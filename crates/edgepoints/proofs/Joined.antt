-- What the pass over the edges leaves in the vertices' cells: of each vertex the stage that its border neighbours so far have
-- taken it to, `joined_is`. Assumes nothing.
use Prim.Native.Nat.{ℕ, zero, suc, ◌+◌, ◌*◌, ◌≤◌, ◌<◌}
use mathlib.Core.Path.{◌≡◌, refl, ap, ap₂, ◌∙◌}
use mathlib.Core.Logic.{◌≢◌}
use mathlib.Core.Bool.{Bool, true, false, cond}
use mathlib.Core.List.{List, []}
use native.Mathlib.Decide.{ℕ_discrete}
use native.Mathlib.Nat.{add-zero}
use native.Mathlib.Omega.{arith}
use lib.Dec.{eqb}
use lib.IntN.{ℤ, pos, nat_abs, ◌+ℤ◌, +ℤ_idr, +ℤ_assoc}
use lib.ListN.{length}
use borrow.Author.Tests.{eq-eqb, ne_eqb}
use Rattle.laws.specs.Below.{count}
use Rattle.laws.specs.Internal.Steps.{steps}
use Rattle.laws.proofs.Integers.{nat_abs_add, add_swap}
use Rattle.laws.proofs.Select.{count_grows}
use Rattle.halfedges.specs.Cage.{NEXT, marker, cell}
use Rattle.halfedges.proofs.Triangle.{next_below}
use Rattle.edgepoints.specs.declared.edges.Corner.{Corner}
use Rattle.edgepoints.specs.declared.edges.Halfedge.{Halfedge}
use Rattle.tables.specs.Tables.{tables, leaves}
use Rattle.points.specs.NextPoints.{coordinate, far}
use Rattle.points.specs.Operations.{most_coordinate, InRange}
use Rattle.points.specs.Internal.Relied.{Bordered, border_leaves, border_ends, Carried}
use Rattle.points.specs.Internal.Cells.{value, put}
use Rattle.points.specs.Internal.Parts.{met}
use Rattle.edgepoints.specs.Internal.Edges.{middle, meeting, meet, border_edge, inner, inner_edge, corner_of, halfedge_of, Edged, put_edge}
use Rattle.points.proofs.Ends.{leaving_sum, ending_sum, crease_sum, creases_at_most, far_below}
use Rattle.laws.proofs.Totals.{scan_more}
use Rattle.points.proofs.Range.{any_in_range}
use Rattle.points.proofs.Only.{put_only, put_hit}
use Rattle.points.proofs.Holding.{Holds}
use Rattle.edgepoints.proofs.Meeting.{stage, meets}
use Rattle.edgepoints.proofs.Writes.{meet_only, border_way, inner_way, corner_is}
use Rattle.edgepoints.proofs.Written.{written_only}

module _ (n : ℕ) (a b : Corner) (l : List ℤ) (room : 3 * n + 3 * a.vertex + 2 < length l) where
  meet_is : (v k : ℕ) → k < 3 → value (meet n a b l) (3 * n + 3 * v + k) ≡ cond (eqb a.vertex v) (meeting a b l (3 * n + 3 * v) k) (value l (3 * n + 3 * v + k))
  unfolding meet
  meet_is v k lk = by (ℕ_discrete a.vertex v)
    where
      by : Dec (a.vertex ≡ v) → value (meet n a b l) (3 * n + 3 * v + k) ≡ cond (eqb a.vertex v) (meeting a b l (3 * n + 3 * v) k) (value l (3 * n + 3 * v + k))
      by (yes e) = rw (eq-eqb a.vertex v e, ← e) (put_hit (3 * n + 3 * a.vertex) (meeting a b l (3 * n + 3 * a.vertex)) l room k lk)
      by (no e) = rw (ne_eqb a.vertex v e) ((meet_only n a b l).other (3 * n + 3 * v + k) (λ x y. e (omega arith)))

-- what stands where a vertex is v speaks of v
at_vertex : (a v : ℕ) (f : ℕ → ℤ) (w : ℤ) → cond (eqb a v) (f a) w ≡ cond (eqb a v) (f v) w
at_vertex a v f w = by (ℕ_discrete a v)
  where
    by : Dec (a ≡ v) → cond (eqb a v) (f a) w ≡ cond (eqb a v) (f v) w
    by (yes e) = rw e
    by (no e) = rw (ne_eqb a v e)

module _ (twin vert edge : List ℕ) (n : ℕ) (points l : List ℤ) (edged : Edged twin vert edge n l) (holds : Holds n points l) (e : ℕ) (carried : Carried twin edge e) (room : 6 * n + 3 * e ≤ length l) where
  -- the table after i halfedges
  abbrev after : ℕ → List ℤ
  after i = steps i (put_edge twin vert edge n l) l

  module _ (v k : ℕ) (lv : v < n) (lk : k < 3) where
    abbrev at : ℕ
    at = 3 * n + 3 * v + k

    abbrev x : ℤ
    x = coordinate points k v

    module _ (h : ℕ) (b : h < length vert) (m : List ℤ) (long : length m ≡ length l) where
      abbrev from : Corner
      from = corner_of vert l h

      abbrev to : Corner
      to = corner_of vert l (NEXT h)

      abbrev whole : Halfedge
      whole = halfedge_of twin vert edge l h

      -- an inner halfedge leaves the vertices alone
      inner_keeps : cell twin h ≢ marker → value (put_edge twin vert edge n l h m) at ≡ value m at
      unfolding put_edge inner_edge
      inner_keeps u =
          ap (λ y. value y at) (inner_way n whole m u)
          ∙ (put_only (6 * n + 3 * cell edge h) (inner n whole m) m).other at (λ x y. omega arith)

      -- a border halfedge has its ends meet
      abbrev once : ℤ → ℤ
      once now = cond (leaves vert v h) (met now x (coordinate points k (far vert h))) now

      abbrev twice : ℤ → ℤ
      twice now = cond (eqb (far vert h) v) (met now x (coordinate points k (cell vert h))) now

      from_is : value from.point k ≡ coordinate points k (cell vert h)
      from_is = corner_is edged.cornered holds h k b lk

      to_is : value to.point k ≡ coordinate points k (far vert h)
      to_is = corner_is edged.cornered holds (NEXT h) k (next_below edged.cornered.whole b) lk

      ends_meet : cell twin h ≡ marker → value (put_edge twin vert edge n l h m) at ≡ twice (once (value m at))
      unfolding put_edge border_edge
      ends_meet t =
          let la = edged.cornered.below h b in
          let lb = far_below vert n edged.cornered h b in
          let mid = put (6 * n + 3 * cell edge h) (middle from to) m in
          let only = put_only (6 * n + 3 * cell edge h) (middle from to) m in
          let fits : 6 * n ≤ length mid = rw (only.long, long) (omega arith) in
          let met-a = meet n from to mid in
          let second : value (meet n to from met-a) at ≡ cond (eqb (far vert h) v) (met (value met-a at) (value to.point k) (value from.point k)) (value met-a at) =
          meet_is n to from met-a (rw (meet_only n from to mid).long (omega (arith, fits, lb))) v k lk in
          let first : value met-a at ≡ cond (leaves vert v h) (met (value mid at) (value from.point k) (value to.point k)) (value mid at) = meet_is n from to mid (omega (arith, fits, la)) v k lk in
          ap (λ y. value y at) (border_way n whole m t)
          ∙ second
          ∙ rw (to_is, from_is) (at_vertex (far vert h) v (λ u. met (value met-a at) (coordinate points k u) (coordinate points k (cell vert h))) (value met-a at))
          ∙ ap twice
          (first
          ∙ rw (from_is, to_is) (at_vertex (cell vert h) v (λ u. met (value mid at) (coordinate points k u) (coordinate points k (far vert h))) (value mid at))
          ∙ ap once (only.other at (λ x y. omega arith)))

    -- how many border neighbours v has met after i halfedges
    abbrev had : ℕ → ℕ
    had i = count i (border_leaves twin vert v) + count i (border_ends twin vert v)

    module _ (range : InRange points) (bordered : Bordered twin vert n) (place : nat_abs (value l at) ≤ most_coordinate) where
      small : (u : ℕ) → nat_abs (coordinate points k u) ≤ most_coordinate
      small u = any_in_range points range (3 * u + k)

      had_few : (i : ℕ) → i ≤ length vert → had i ≤ 2
      had_few i b =
          omega (arith, bordered.one v lv, bordered.pair v lv, count_grows (border_leaves twin vert v) i (length vert) b, count_grows (border_ends twin vert v) i (length vert) b)

      pub joined_is : (i : ℕ) → i ≤ length vert → value (after i) at ≡ stage (had i) (value l at) x (crease_sum (tables twin vert edge) [] points k v i)
      unfolding steps
      joined_is zero b = refl
      joined_is (suc i) b = by (ℕ_discrete (cell twin i) marker) (joined_is i (omega arith))
        where
          m : List ℤ
          m = after i

          long : length (after i) ≡ length l
          long = (written_only twin vert edge n points l edged holds e carried room i (omega arith)).long

          A : Bool
          A = leaves vert v i

          F : Bool
          F = eqb (far vert i) v

          xb : ℤ
          xb = coordinate points k (far vert i)

          xa : ℤ
          xa = coordinate points k (cell vert i)

          L : ℕ → ℤ
          L = leaving_sum (tables twin vert edge) [] points k v

          E : ℕ → ℤ
          E = ending_sum twin vert points k v

          s : ℤ
          s = crease_sum (tables twin vert edge) [] points k v i

          s_small : nat_abs (crease_sum (tables twin vert edge) [] points k v i) ≤ most_coordinate * had i
          s_small = omega (arith, creases_at_most (tables twin vert edge) [] v points k most_coordinate small i)

          by : Dec (cell twin i ≡ marker) → value (after i) at ≡ stage (had i) (value l at) x (crease_sum (tables twin vert edge) [] points k v i) → value (after (suc i)) at ≡ stage (had (suc i)) (value l at) x (crease_sum (tables twin vert edge) [] points k v (suc i))
          by (no t) ih =
              inner_keeps i b (after i) long t ∙ ih
              ∙ rw (scan_more (λ h. coordinate points k (far vert h)) (border_leaves twin vert v) i, scan_more (λ h. coordinate points k (cell vert h)) (border_ends twin vert v) i, ne_eqb _ marker t, add-zero, add-zero, +ℤ_idr, +ℤ_idr)
          by (yes t) ih =
              let few : had i + cond A 1 0 + cond F 1 0 ≤ 2 = omega (arith, rw (eq-eqb _ marker t) at (had_few (suc i) b)) in
              ends_meet i b (after i) long t
              ∙ ap (λ z. twice i b (after i) long (once i b (after i) long z)) ih
              ∙ ap (twice i b (after i) long) (meets (value l at) x place (small v) (had i) s xb A (omega arith) s_small)
              ∙ meets (value l at) x place (small v) (had i + cond A 1 0) (s +ℤ cond A xb (pos 0)) xa F few (one_more A)
              ∙ ap₂ (λ i s. stage i (value l at) x s) counts sums
            where
              one_more : (A : Bool) → nat_abs (s +ℤ cond A xb (pos 0)) ≤ most_coordinate * (had i + cond A 1 0)
              one_more true = omega (arith, s_small, nat_abs_add s xb, small (far vert i))
              one_more false = rw (+ℤ_idr, add-zero) s_small

              counts : had i + cond A 1 0 + cond F 1 0 ≡ had (suc i)
              counts = rw (eq-eqb _ marker t) (omega arith)

              sums : s +ℤ cond A xb (pos 0) +ℤ cond F xa (pos 0) ≡ crease_sum (tables twin vert edge) [] points k v (suc i)
              sums =
                  rw (scan_more (λ h. coordinate points k (far vert h)) (border_leaves twin vert v) i, scan_more (λ h. coordinate points k (cell vert h)) (border_ends twin vert v) i, eq-eqb _ marker t)
                  (+ℤ_assoc s (cond A xb (pos 0)) (cond F xa (pos 0)) ∙ add_swap (L i) (E i) (cond A xb (pos 0)) (cond F xa (pos 0)))
