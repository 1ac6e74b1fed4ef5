-- A level's points depend on the numbers of the crease table alone: tables that read alike give the same, `points_alike`. Assumes nothing.
use Prim.Native.Nat.{ℕ, ◌+◌, ◌-◌, ◌*◌, ◌/◌, ◌%◌}
use mathlib.Core.Path.{◌≡◌, ap}
use mathlib.Core.Bool.{◌||◌, ◌&&◌}
use mathlib.Core.List.{List, ◌++◌, map}
use lib.Dec.{eqb, ltb}
use lib.IntN.{ℤ}
use lib.ListN.{length}
use Rattle.laws.specs.Below.{select}
use Rattle.laws.proofs.Tabulate.{tabulate_ext}
use Rattle.halfedges.specs.declared.table.HalfedgeTable.{HalfedgeTable}
use Rattle.halfedges.specs.Cage.{cell, border}
use Rattle.tables.specs.Tables.{Tables, leaves}
use Rattle.points.specs.declared.weights.Weight.{Weight}
use Rattle.points.specs.NextPoints.{far, crease, crease_ends, carrier, vertex_point, edge_point, new_point, next_points}

module _ (w : Weight) (t : HalfedgeTable) (c : Tables) (a b : List ℕ) (same : (e : ℕ) → cell a e ≡ cell b e) where
  crease-alike : (h : ℕ) → crease c a h ≡ crease c b h
  crease-alike h = ap (λ n. ltb 0 n || border c.twin h) (same (cell c.edge h))

  pub ends_alike_lem : (v : ℕ) → crease_ends c a v ≡ crease_ends c b v
  unfolding crease_ends
  ends_alike_lem v = λ i.
      map (far c.vert) (select (length c.vert) (λ h. crease-alike h i && leaves c.vert v h))
      ++ map (cell c.vert) (select (length c.vert) (λ h. border c.twin h && eqb (far c.vert h) v))

  module _ (points : List ℤ) where
    new_alike : (u k : ℕ) → new_point w t c a points u k ≡ new_point w t c b points u k
    unfolding new_point vertex_point edge_point
    new_alike u k = rw (ends_alike_lem u, crease-alike (carrier c.edge (u - t.vertices)))

    pub points_alike : next_points w t c a points ≡ next_points w t c b points
    unfolding next_points
    points_alike = tabulate_ext (3 * (t.vertices + t.edges)) _ _ (λ i l. new_alike (i / 3) (i % 3))
