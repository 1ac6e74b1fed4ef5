-- What the point rules rely on holds at every level of an accepted cage: `relied`, and of its vertices' corners `known`. Assumes
-- nothing.
use Prim.Native.Nat.{ℕ, ◌≤◌, ◌<◌}
use mathlib.Core.Path.{◌≡◌, sym, ◌∙◌}
use mathlib.Core.Logic.{◌⊎◌, inl, inr}
use mathlib.Core.List.{List}
use native.Mathlib.Decide.{dec_le, dec_lt}
use native.Mathlib.Omega.{arith}
use lib.ListN.{length, get_or-eq_default}
use Rattle.laws.specs.Below.{tabulate, count}
use Rattle.laws.proofs.Select.{length-select}
use Rattle.laws.proofs.Pigeonhole.{some_counted}
use Rattle.laws.proofs.Tabulate.{length-tabulate, get_d_tabulate}
use Rattle.halfedges.specs.declared.table.HalfedgeTable.{HalfedgeTable}
use Rattle.halfedges.specs.Cage.{NEXT, marker, most_halfedges, most_vertices, most_depth, F, cell, E}
use Rattle.halfedges.specs.Refusals.{DONE, first}
use Rattle.halfedges.specs.Counts.{counts_at, Vs}
use Rattle.halfedges.proofs.Questions.{limits_kept}
use borrow.Author.Tests.{eq-eqb}
use Rattle.tables.specs.Tables.{Tables, counts_of, leaves}
use Rattle.tables.specs.Ruled.{Shaped, Ruled}
use Rattle.splitting.specs.NextLevel.{level}
use Rattle.tables.specs.Check.{table_checks}
use Rattle.tables.proofs.Accepted.{whole_meaning}
use Rattle.tables.proofs.EdgeCount.{carried}
use Rattle.invariance.specs.Invariance.{corners_at, OnBorder, Added, Invariant}
use Rattle.invariance.proofs.VertexCount.{corners_at_most, as_many_borders, one_border_leaves}
use Rattle.invariance.proofs.Levels.{accepted, within_limits, vertices-stay}
use Rattle.points.specs.NextPoints.{corners}
use Rattle.points.specs.Internal.Relied.{most_corners, border_leaves, border_ends, known_corners, Known, Relied}

-- of tables that keep the rules, with few corners at a vertex
module _ (t : HalfedgeTable) (c : Tables) (s : Shaped c) (r : Ruled c t.vertices) (small : length c.twin ≤ marker) where
  rules_relied : length c.twin ≡ t.halfedges → E c.twin ≡ t.edges → ((u : ℕ) → u < t.vertices → corners_at c u ≤ most_corners) → Relied t c
  unfolding corners corners_at
  rules_relied long edges few =
      record {
        halfedges = s.vert_long ∙ long;
        cornered = record {
          whole = rw s.vert_long s.whole;
          below = λ h l. r.placed.below h (rw s.vert_long at l);
          some = λ u l. let k = r.used.corner u l in rw (length-select (leaves c.vert u) (length c.vert)) (some_counted (length c.vert) (leaves c.vert u) k.0 k.1 (eq-eqb _ _ k.2));
          few = λ u l. rw (length-select (leaves c.vert u) (length c.vert), s.vert_long) (few u l);
        };
        bordered = record {
          long = sym s.vert_long;
          one = λ u l. one_border_leaves s r small u;
          pair = λ u l. as_many_borders s r small u;
        };
        carried = record {
          long = s.edge_long;
          twin_below = r.paired.below;
          twin_other = r.paired.other;
          twin_same = r.numbered.twin_same;
          below = λ h l. rw (← edges) (r.numbered.below h (rw s.edge_long at l));
          some = λ i l. let k = carried c.twin small r.paired c.edge r.numbered i (rw (← edges) at l) in (k.0, omega (arith, k.1, s.edge_long), k.2);
          own = λ g h lg lh. r.numbered.own g h (rw s.edge_long at lg) (rw s.edge_long at lh);
        };
        twin_ends = r.placed.twin_ends;
      }

-- an added vertex has at most six corners
added_few : (c : Tables) (u : ℕ) → Added c u → corners_at c u ≤ 6
added_few c u a = by (dec_le (corners_at c u) 6)
  where
    by : Dec (corners_at c u ≤ 6) → corners_at c u ≤ 6
    by (yes l) = l
    by (no l) = absurd (l (omega (arith, a.inside (λ b. l (omega (arith, a.on_border b))))))

pub relied : (c : Tables) (v depth : ℕ) → first (table_checks c v depth) ≡ DONE → (d : ℕ) → d ≤ most_depth → Relied (counts_at (counts_of c v) d) (level (counts_of c v) c d)
relied c v depth e d l =
    let p = accepted c v depth e d l in
    let m = (whole_meaning c v depth).0 e in
    let k = limits_kept (length c.twin) v depth m.1 in
    let small = within_limits (length c.twin) d k.0 l in
    rules_relied (counts_at (counts_of c v) d) (level (counts_of c v) c d) p.shaped p.ruled (omega (arith, p.halfedges)) (sym p.quoted_halfedges) (sym p.quoted_edges)
    (λ u b. by u b (dec_lt u (Vs (counts_of c v) 0)) p (corners_at_most m.0 m.2 u) k.0)
  where
    by : (u : ℕ) → u < Vs (counts_of c v) d → Dec (u < Vs (counts_of c v) 0) → Invariant (counts_of c v) c d → corners_at c u ≤ F (length c.twin) → length c.twin ≤ most_halfedges → corners_at (level (counts_of c v) c d) u ≤ most_corners
    by u b (yes a) p few n = omega (arith, p.cage_corners u a)
    by u b (no a) p few n = omega (arith, added_few _ u (p.added_corners u (omega (arith, a)) b))

-- a vertex that no border halfedge leaves is not on the border, since none ends there either
inside : (c : Tables) (v : ℕ) → (s : Shaped c) → (r : Ruled c v) → (small : length c.twin ≤ marker) → (u : ℕ) → count (length c.vert) (border_leaves c.twin c.vert u) ≡ 0 → ¬ OnBorder c u
inside c v s r small u none (h, l, twin, at) = by at
  where
    in_vert : h < length c.vert
    in_vert = omega (arith, l, s.vert_long)

    by : (cell c.vert h ≡ u) ⊎ (cell c.vert (NEXT h) ≡ u) → ⊥
    by (inl q) = omega (arith, none, some_counted (length c.vert) (border_leaves c.twin c.vert u) h in_vert (rw (eq-eqb _ marker twin) (eq-eqb _ u q)))
    by (inr q) = omega (arith, none, as_many_borders s r small u, some_counted (length c.vert) (border_ends c.twin c.vert u) h in_vert (rw (eq-eqb _ marker twin) (eq-eqb _ u q)))

-- the corners of the cage's vertices, and six for the others, at every level of an accepted cage
module _ (c : Tables) (v depth : ℕ) (e : first (table_checks c v depth) ≡ DONE) (d : ℕ) (l : d ≤ most_depth) where
  abbrev t : HalfedgeTable
  t = counts_of c v

  abbrev own : List ℕ
  own = tabulate v (λ u. length (corners c.vert u))

  p : Invariant (counts_of c v) c d
  p = accepted c v depth e d l

  shaped : Shaped c
  shaped = ((whole_meaning c v depth).0 e).0

  limits : (length c.twin ≤ most_halfedges) × (v ≤ most_vertices) × (depth ≤ most_depth)
  limits = limits_kept (length c.twin) v depth ((whole_meaning c v depth).0 e).1

  small : length (level t c d).twin ≤ marker
  small = omega (arith, p.halfedges, within_limits (length c.twin) d limits.0 l)

  counted : (u : ℕ) → length (corners (level t c d).vert u) ≡ corners_at (level t c d) u
  unfolding corners corners_at
  counted u = rw (length-select (leaves (level t c d).vert u) (length (level t c d).vert), p.shaped.vert_long)

  own_counted : (u : ℕ) → length (corners c.vert u) ≡ corners_at c u
  unfolding corners corners_at
  own_counted u = rw (length-select (leaves c.vert u) (length c.vert), shaped.vert_long)

  cage_known : (u : ℕ) → u < v → known_corners own u ≡ corners_at (level t c d) u
  unfolding counts_at
  cage_known u b = get_d_tabulate v (λ u. length (corners c.vert u)) u 6 b ∙ own_counted u ∙ sym (p.cage_corners u b)

  added_known : (u : ℕ) → v ≤ u → known_corners own u ≡ 6
  added_known u b = get_or-eq_default own 6 (rw (length-tabulate v (λ u. length (corners c.vert u))) b)

  added : (u : ℕ) → v ≤ u → u < Vs t d → Added (level t c d) u
  unfolding counts_at
  added u a b = p.added_corners u a b

  pub known : Known own (level t c d).twin (level t c d).vert (Vs t d)
  unfolding counts_at
  known =
      record {
        inside = λ u b none. by_inside u b none (dec_lt u v);
        most = λ u b. by_most u b (dec_lt u v);
        few = λ u b. by_few u (dec_lt u v);
        fewer = rw (length-tabulate v (λ u. length (corners c.vert u))) stays;
      }
    where
      stays : v ≤ Vs (counts_of c v) d
      stays = vertices-stay (counts_of c v) d

      by_inside : (u : ℕ) → u < Vs (counts_of c v) d → count (length (level t c d).vert) (border_leaves (level t c d).twin (level t c d).vert u) ≡ 0 → Dec (u < v) → length (corners (level t c d).vert u) ≡ known_corners own u
      by_inside u b none (yes a) = counted u ∙ sym (cage_known u a)
      by_inside u b none (no a) = counted u ∙ (added u (omega (arith, a)) b).inside (inside (level t c d) (Vs t d) p.shaped p.ruled small u none) ∙ sym (added_known u (omega (arith, a)))

      by_most : (u : ℕ) → u < Vs (counts_of c v) d → Dec (u < v) → length (corners (level t c d).vert u) ≤ known_corners own u
      by_most u b (yes a) = omega (arith, counted u, cage_known u a)
      by_most u b (no a) = omega (arith, counted u, added_known u (omega (arith, a)), added_few _ u (added u (omega (arith, a)) b))

      by_few : (u : ℕ) → Dec (u < v) → known_corners own u ≤ most_corners
      by_few u (yes a) = omega (arith, get_d_tabulate v (λ u. length (corners c.vert u)) u 6 a, own_counted u, corners_at_most shaped ((whole_meaning c v depth).0 e).2 u, limits.0)
      by_few u (no a) = omega (arith, added_known u (omega (arith, a)))
