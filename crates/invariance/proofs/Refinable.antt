-- Tables that can be refined: they have the right shape, pass the rules, and the level after them has at most as many
-- halfedges as the marker. What stands in the tables of that level, row by row: `twin_rows`, `vert_rows`, `edge_rows`.
-- Assumes nothing.
use Prim.Native.Nat.{ℕ, ◌+◌, ◌*◌, ◌≤◌, ◌<◌}
use mathlib.Core.Path.{◌≡◌, refl, ap, ◌∙◌}
use mathlib.Core.Bool.{cond}
use lib.ListN.{length}
use Rattle.laws.proofs.Tabulate.{length-tabulate}
use Rattle.halfedges.specs.Cage.{NEXT, PREV, marker, cell, above, E}
use Rattle.tables.specs.Tables.{Tables, counts_of}
use Rattle.tables.specs.Ruled.{Shaped, Ruled}
use Rattle.splitting.specs.NextLevel.{where_twin, new_twin, new_vert, new_edge, next_twins, next_verts, next_edges, next}
use Rattle.halfedges.proofs.Triangle.{next_below, prev_below}
use Rattle.invariance.proofs.Rows.{Rows, rows_hold}

abbrev pub H : Tables → ℕ
H c = length c.twin

abbrev pub TWIN : Tables → ℕ → ℕ
TWIN c h = cell c.twin h

abbrev pub VERT : Tables → ℕ → ℕ
VERT c h = cell c.vert h

abbrev pub EDGE : Tables → ℕ → ℕ
EDGE c h = cell c.edge h

-- the level after c, which has v vertices
abbrev pub finer : Tables → ℕ → Tables
finer c v = next (counts_of c v) c

pub record Refinable (c : Tables) (v : ℕ) : Type 0 where
  pub shaped : Shaped c
  pub ruled : Ruled c v
  pub small : 4 * H c ≤ marker

module _ {c : Tables} {v : ℕ} (q : Refinable c v) where
  pub next_in : {h : ℕ} → h < H c → NEXT h < H c
  next_in l = next_below q.shaped.whole l

  pub prev_in : {h : ℕ} → h < H c → PREV h < H c
  prev_in l = prev_below q.shaped.whole l

  pub length-twins : length (finer c v).twin ≡ 4 * H c
  unfolding next_twins
  length-twins = length-tabulate _ _

  pub length_verts : length (finer c v).vert ≡ 4 * H c
  unfolding next_verts
  length_verts = length-tabulate _ _ ∙ ap (λ n. 4 * n) q.shaped.vert_long

  pub length_edges : length (finer c v).edge ≡ 4 * H c
  unfolding next_edges
  length_edges = length-tabulate _ _ ∙ ap (λ n. 4 * n) q.shaped.edge_long

  pub twin_rows :
      Rows (finer c v).twin (H c) (λ h. where_twin c.twin h (3 * NEXT (TWIN c h) + 2)) (λ h. 3 * H c + h)
      (λ h. where_twin c.twin (PREV h) (3 * TWIN c (PREV h))) (λ h. 3 * h + 1)
  unfolding next_twins new_twin
  twin_rows = rows_hold _ _ _ _ _ _ refl

  pub vert_rows : Rows (finer c v).vert (H c) (VERT c) (λ h. v + EDGE c h) (λ h. v + EDGE c (PREV h)) (λ h. v + EDGE c (PREV h))
  unfolding next_verts new_vert
  vert_rows = rows_hold _ _ _ _ _ _ q.shaped.vert_long

  pub edge_rows :
      Rows (finer c v).edge (H c) (λ h. 2 * EDGE c h + cond (above c.twin h) 0 1) (λ h. 2 * E c.twin + h)
      (λ h. 2 * EDGE c (PREV h) + cond (above c.twin (PREV h)) 1 0) (λ h. 2 * E c.twin + h)
  unfolding next_edges new_edge
  edge_rows = rows_hold _ _ _ _ _ _ q.shaped.edge_long
