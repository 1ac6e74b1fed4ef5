-- Rule 8 holds at every level: from a level's points in range the next level's are (`next_in_range`), and so are those of
-- every depth (`levels_in_range`); how many coordinates a level has (`level_points_long`). Assumes nothing.
use Prim.Native.Nat.{ℕ, zero, suc, ◌+◌, ◌*◌, ◌/◌, ◌%◌, ◌≤◌, ◌<◌}
use mathlib.Core.Path.{◌≡◌}
use mathlib.Core.List.{List, map}
use native.Mathlib.Decide.{dec_lt}
use native.Mathlib.Omega.{arith}
use lib.Dec.{eqb, ltb}
use lib.IntN.{ℤ, pos, nat_abs}
use lib.ListN.{length, get_or, get_or-eq_default}
use borrow.Author.Tests.{eqb-true, ltb-true}
use Rattle.laws.proofs.Cases.{cond_keeps}
use Rattle.laws.proofs.Tabulate.{length-tabulate, get_d_tabulate}
use Rattle.halfedges.specs.declared.table.HalfedgeTable.{HalfedgeTable}
use Rattle.halfedges.specs.Counts.{counts_at, Vs}
use Rattle.tables.specs.Tables.{Tables}
use Rattle.points.specs.declared.weights.Weight.{Weight}
use Rattle.splitting.specs.NextLevel.{level}
use Rattle.creases.specs.Creases.{creases_at}
use Rattle.points.specs.NextPoints.{coordinate, corners, spoke_ends, crease, crease_ends, vertex_point, edge_point, new_point, next_points, level_points}
use Rattle.laws.specs.Totals.{total}
use Rattle.points.specs.Operations.{most_coordinate, InRange}
use Rattle.points.specs.Internal.Relied.{Relied}
use Rattle.points.proofs.Numerators.{E1_at_most, E2_at_most, V2_at_most, V3_at_most}
use Rattle.points.proofs.Ends.{corners-counted, spokes_are, spokes_at_most, creases_counted, creases_are, creases_at_most}

-- what lies past the end is 0
pub any_in_range : (points : List ℤ) → InRange points → (i : ℕ) → nat_abs (get_or points i (pos 0)) ≤ most_coordinate
any_in_range points range i = by (dec_lt i (length points))
  where
    by : Dec (i < length points) → nat_abs (get_or points i (pos 0)) ≤ most_coordinate
    by (yes l) = range i l
    by (no l) = rw (get_or-eq_default points (pos 0) {n = i} (omega (arith, l))) (omega arith)

module _ (w : Weight) (t : HalfedgeTable) (c : Tables) (relied : Relied t c) (creases : List ℕ) (points : List ℤ) (range : InRange points) (k : ℕ) where
  at_vertex : (v : ℕ) → nat_abs (coordinate points k v) ≤ most_coordinate
  at_vertex v = any_in_range points range _

  spokes_small : (v : ℕ) → nat_abs (total (map (coordinate points k) (spoke_ends c.vert v))) ≤ most_coordinate * length (corners c.vert v)
  spokes_small v = rw (spokes_are c.vert v points k, corners-counted c.vert v) (spokes_at_most c.vert v points k most_coordinate at_vertex (length c.vert))

  creases_small : (v : ℕ) → length (crease_ends c creases v) ≡ 2 → nat_abs (total (map (coordinate points k) (crease_ends c creases v))) ≤ most_coordinate * 2
  creases_small v two =
      rw (creases_are c creases v points k)
      (omega (arith, creases_at_most c creases v points k most_coordinate at_vertex (length c.vert), creases_counted c creases v, two))

  vertex_in_range : (v : ℕ) → v < t.vertices → nat_abs (vertex_point w c creases points v k) ≤ most_coordinate
  unfolding vertex_point
  vertex_in_range v l =
      cond_keeps (λ z. nat_abs z ≤ most_coordinate) (ltb (length (crease_ends c creases v)) 2)
      (λ _. V3_at_most most_coordinate w _ _ _ (relied.cornered.some v l) (at_vertex v) (spokes_small v))
      (λ _.
      cond_keeps (λ z. nat_abs z ≤ most_coordinate) (eqb (length (crease_ends c creases v)) 2)
      (λ e. V2_at_most most_coordinate _ _ (at_vertex v) (creases_small v (eqb-true (length (crease_ends c creases v)) 2 e)))
      (λ _. at_vertex v))

  edge_in_range : (h : ℕ) → nat_abs (edge_point c creases points h k) ≤ most_coordinate
  unfolding edge_point
  edge_in_range h =
      cond_keeps (λ z. nat_abs z ≤ most_coordinate) (crease c creases h)
      (λ _. E1_at_most most_coordinate _ _ (at_vertex _) (at_vertex _))
      (λ _. E2_at_most most_coordinate _ _ _ _ (at_vertex _) (at_vertex _) (at_vertex _) (at_vertex _))

  new_in_range : (u : ℕ) → nat_abs (new_point w t c creases points u k) ≤ most_coordinate
  unfolding new_point
  new_in_range u =
      cond_keeps (λ z. nat_abs z ≤ most_coordinate) (ltb u t.vertices)
      (λ e. vertex_in_range u (ltb-true u t.vertices e))
      (λ _. edge_in_range _)

pub next_in_range : (w : Weight) (t : HalfedgeTable) (c : Tables) → Relied t c → (creases : List ℕ) (points : List ℤ) → InRange points → InRange (next_points w t c creases points)
unfolding next_points
next_in_range w t c relied creases points range i l =
    let b : i < 3 * (t.vertices + t.edges) = rw (length-tabulate (3 * (t.vertices + t.edges)) (λ j. new_point w t c creases points (j / 3) (j % 3))) at l in
    rw (get_d_tabulate (3 * (t.vertices + t.edges)) (λ j. new_point w t c creases points (j / 3) (j % 3)) i (pos 0) b) (new_in_range w t c relied creases points range (i % 3) (i / 3))

-- how many coordinates a level has
pub level_points_long : (w : Weight) (t : HalfedgeTable) (c : Tables) (creases : List ℕ) (points : List ℤ) → length points ≡ 3 * t.vertices → (d : ℕ) → length (level_points w t c creases points d) ≡ 3 * Vs t d
unfolding level_points counts_at next_points
level_points_long w t c creases points e zero = e
level_points_long w t c creases points e (suc d) = length-tabulate (3 * ((counts_at t d).vertices + (counts_at t d).edges)) (λ i. new_point w (counts_at t d) (level t c d) (creases_at t creases d) (level_points w t c creases points d) (i / 3) (i % 3))

pub levels_in_range : (w : Weight) (t : HalfedgeTable) (c : Tables) (creases : List ℕ) (points : List ℤ) (depth : ℕ) → ((d : ℕ) → d < depth → Relied (counts_at t d) (level t c d)) → InRange points → (d : ℕ) → d ≤ depth → InRange (level_points w t c creases points d)
unfolding level_points
levels_in_range w t c creases points depth relied range zero l = range
levels_in_range w t c creases points depth relied range (suc d) l = next_in_range w (counts_at t d) (level t c d) (relied d l) (creases_at t creases d) (level_points w t c creases points d) (levels_in_range w t c creases points depth relied range d (omega arith))
