-- A sound level's next level is sound (`sound_next`), and so are all levels of a sound cage (`sound_at`). Assumes nothing.
use Prim.Native.Nat.{ℕ, zero, suc, ◌+◌, ◌*◌, ◌≤◌, ◌<◌}
use mathlib.Core.Path.{◌≡◌, refl, ap, ◌∙◌}
use mathlib.Core.Logic.{◌≢◌}
use mathlib.Core.Bool.{Bool, true, false, cond}
use mathlib.Core.List.{List}
use native.Mathlib.Decide.{ℕ_discrete}
use native.Mathlib.Omega.{arith}
use lib.ListN.{length}
use borrow.Author.Tests.{eq-eqb, ne_eqb}
use Rattle.halfedges.specs.declared.table.HalfedgeTable.{HalfedgeTable}
use Rattle.laws.proofs.Tabulate.{length-tabulate, get_d_tabulate}
use Rattle.halfedges.specs.Cage.{PREV, marker, cell, above}
use Rattle.halfedges.specs.Counts.{finer, counts_at}
use Rattle.halfedges.proofs.Triangle.{next_below, prev_below, four_whole}
use Rattle.tables.specs.Tables.{Tables}
use Rattle.splitting.specs.NextLevel.{where_twin, new_twin, new_edge, next_twins, next_edges, next_verts, next, level}
use Rattle.splitting.specs.Internal.InPlace.{Sound}
use Rattle.splitting.proofs.Rows.{every_row}

one_bit : (b : Bool) (x y : ℕ) → x ≤ 1 → y ≤ 1 → cond b x y ≤ 1
one_bit true x y p q = p
one_bit false x y p q = q

-- what holds of a twin's number holds of the new twin where it is not the marker
pub where-twin : (P : ℕ → Type 0) (twin : List ℕ) (h x : ℕ) → (cell twin h ≢ marker → P x) → where_twin twin h x ≢ marker → P (where_twin twin h x)
where-twin P twin h x f = by (ℕ_discrete (cell twin h) marker)
  where
    by : Dec (cell twin h ≡ marker) → where_twin twin h x ≢ marker → P (where_twin twin h x)
    by (yes e) = rw (eq-eqb (cell twin h) marker e) (λ m. absurd (m refl))
    by (no e) = rw (ne_eqb (cell twin h) marker e) (λ m. f e)

module _ (t : HalfedgeTable) (c : Tables) (s : Sound t c) where
  abbrev n : ℕ
  n = t.halfedges

  -- a new twin that is not the marker
  Below : ℕ → Type 0
  Below x = x ≢ marker → x < 4 * n

  new_twin_below : (k : ℕ) → k < 4 * n → Below (new_twin c.twin k)
  unfolding new_twin Below
  new_twin_below k l =
      every_row (length c.twin) _ _ _ _ Below
      (λ h m. where-twin (λ x. x < 4 * n) c.twin h _ (λ e. omega (arith, next_below s.whole (s.twin_below h (rw s.twin_long at m) e))))
      (λ h m e. omega (arith, s.twin_long))
      (λ h m. where-twin (λ x. x < 4 * n) c.twin (PREV h) _ (λ e. omega (arith, s.twin_below (PREV h) (prev_below s.whole (rw s.twin_long at m)) e)))
      (λ h m e. omega (arith, s.twin_long))
      k (rw s.twin_long l)

  new_edge_below : (k : ℕ) → k < 4 * n → new_edge c.twin c.edge t.edges k < 2 * t.edges + n
  unfolding new_edge
  new_edge_below k l =
      every_row (length c.edge) _ _ _ _ (λ x. x < 2 * t.edges + n)
      (λ h m. omega (arith, s.edge_below h (rw s.edge_long at m), one_bit (above c.twin h) 0 1 (omega arith) (omega arith)))
      (λ h m. omega (arith, s.edge_long))
      (λ h m. omega (arith, s.edge_below (PREV h) (prev_below s.whole (rw s.edge_long at m)), one_bit (above c.twin (PREV h)) 1 0 (omega arith) (omega arith)))
      (λ h m. omega (arith, s.edge_long))
      k (rw s.edge_long l)

  pub sound_next : Sound (finer t) (next t c)
  unfolding next_twins next_verts next_edges Below
  sound_next =
      record {
        twin_long = length-tabulate _ _ ∙ ap (λ m. 4 * m) s.twin_long;
        vert_long = length-tabulate _ _ ∙ ap (λ m. 4 * m) s.vert_long;
        edge_long = length-tabulate _ _ ∙ ap (λ m. 4 * m) s.edge_long;
        whole = four_whole n s.whole;
        few_edges = omega (arith, s.few_edges);
        twin_below = λ k l. rw (get_d_tabulate (4 * length c.twin) (new_twin c.twin) k 0 (rw s.twin_long l)) (new_twin_below k l);
        edge_below = λ k l. rw (get_d_tabulate (4 * length c.edge) (new_edge c.twin c.edge t.edges) k 0 (rw s.edge_long l)) (new_edge_below k l);
      }

pub sound_at : (t : HalfedgeTable) (c : Tables) → Sound t c → (d : ℕ) → Sound (counts_at t d) (level t c d)
unfolding counts_at level
sound_at t c s zero = s
sound_at t c s (suc d) = sound_next (counts_at t d) (level t c d) (sound_at t c s d)
