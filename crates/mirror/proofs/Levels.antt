-- Every level of a mirrored cage is the mirrored level, of any tables, with any creases and by either weight: `mirrored-levels`. Assumes nothing.
use Prim.Native.Nat.{ℕ, zero, suc, ◌+◌, ◌*◌, ◌/◌, ◌%◌, ◌<◌}
use mathlib.Core.Path.{◌≡◌, refl, sym, ap, ap₂, ◌∙◌}
use mathlib.Core.Bool.{Bool}
use mathlib.Core.List.{List, map}
use native.Mathlib.Omega.{arith}
use lib.Dec.{eqb, ltb}
use lib.IntN.{ℤ}
use lib.ListN.{length}
use Rattle.laws.specs.Totals.{total}
use Rattle.laws.proofs.Tabulate.{tabulate_ext}
use Rattle.halfedges.specs.declared.table.HalfedgeTable.{HalfedgeTable}
use Rattle.halfedges.specs.Cage.{PREV, cell}
use Rattle.halfedges.specs.Counts.{counts_at}
use Rattle.tables.specs.Tables.{Tables}
use Rattle.splitting.specs.NextLevel.{level}
use Rattle.creases.specs.Creases.{creases_at}
use Rattle.points.specs.declared.weights.Weight.{Weight}
use Rattle.points.specs.PointRules.{E1, E2, V2, V3}
use Rattle.points.specs.NextPoints.{coordinate, corners, far, spoke_ends, crease, crease_ends, vertex_point, edge_point, new_point, next_points, level_points}
use Rattle.mirror.specs.Mirror.{turned, mirrored}
use Rattle.mirror.proofs.Turned.{turned_choice, turned-total, E1-turned, E2-turned, V2-turned, V3-turned}
use Rattle.mirror.proofs.Mirrored.{mirrored-coordinate, mirrored-tabulate}

module _ (k : ℕ) (w : Weight) where
  -- coordinate j of the next level's points
  module _ (points : List ℤ) (j : ℕ) (l : j < 3) where
    abbrev test : Bool
    test = eqb j k

    -- mirrored, and as it was
    abbrev new : ℕ → ℤ
    new = coordinate (mirrored k points) j

    abbrev old : ℕ → ℤ
    old = coordinate points j

    each : (u : ℕ) → new u ≡ turned test (old u)
    each = mirrored-coordinate k points j l

    all : (us : List ℕ) → total (map new us) ≡ turned test (total (map old us))
    all = turned-total test new old each

    module _ (c : Tables) (creases : List ℕ) where
      vertex_mirrored : (v : ℕ) → vertex_point w c creases (mirrored k points) v j ≡ turned test (vertex_point w c creases points v j)
      unfolding vertex_point
      vertex_mirrored v =
          let n = length (corners c.vert v) in
          let spokes = spoke_ends c.vert v in
          let ends = crease_ends c creases v in
          turned_choice (ltb (length ends) 2) test _ _
          (ap₂ (V3 w n) (each v) (all spokes) ∙ V3-turned test w n (old v) (total (map old spokes)))
          (turned_choice (eqb (length ends) 2) test _ _ (ap₂ V2 (each v) (all ends) ∙ V2-turned test (old v) (total (map old ends))) (each v))

      edge_mirrored : (h : ℕ) → edge_point c creases (mirrored k points) h j ≡ turned test (edge_point c creases points h j)
      unfolding edge_point
      edge_mirrored h =
          let a = cell c.vert h in
          let b = far c.vert h in
          let x = cell c.vert (PREV h) in
          let y = cell c.vert (PREV (cell c.twin h)) in
          turned_choice (crease c creases h) test _ _
          (ap₂ E1 (each a) (each b) ∙ E1-turned test (old a) (old b))
          ((λ i. E2 (each a i) (each b i) (each x i) (each y i)) ∙ E2-turned test (old a) (old b) (old x) (old y))

      point_mirrored : (t : HalfedgeTable) (u : ℕ) → new_point w t c creases (mirrored k points) u j ≡ turned test (new_point w t c creases points u j)
      unfolding new_point
      point_mirrored t u = turned_choice (ltb u t.vertices) test _ _ (vertex_mirrored u) (edge_mirrored _)

  next-mirrored : (t : HalfedgeTable) (c : Tables) (creases : List ℕ) (points : List ℤ) → next_points w t c creases (mirrored k points) ≡ mirrored k (next_points w t c creases points)
  unfolding next_points
  next-mirrored t c creases points =
      tabulate_ext (3 * (t.vertices + t.edges)) _ _ (λ i l. point_mirrored points (i % 3) (omega arith) c creases t (i / 3))
      ∙ sym (mirrored-tabulate k (3 * (t.vertices + t.edges)) (λ i. new_point w t c creases points (i / 3) (i % 3)))

  pub mirrored-levels : (t : HalfedgeTable) (c : Tables) (creases : List ℕ) (points : List ℤ) (d : ℕ) → level_points w t c creases (mirrored k points) d ≡ mirrored k (level_points w t c creases points d)
  unfolding level_points
  mirrored-levels t c creases points zero = refl
  mirrored-levels t c creases points (suc d) =
      ap (next_points w (counts_at t d) (level t c d) (creases_at t creases d)) (mirrored-levels t c creases points d)
      ∙ next-mirrored (counts_at t d) (level t c d) (creases_at t creases d) (level_points w t c creases points d)
