-- The levels end to end, one more at a time. Assumes nothing.
--     climb_start, climb_on      where the loop stands at level 0, and at one level more
--     climb_asks                 each level finds what it asks in its part of the tables
--     climb_fits                 and its numbers are small
use Prim.Native.Nat.{ℕ, zero, suc, ◌+◌, ◌*◌, ◌%◌, ◌^◌, ◌≤◌, ◌<◌}
use mathlib.Core.Path.{◌≡◌, refl, sym, ap, ◌∙◌}
use mathlib.Core.Logic.{◌≢◌}
use mathlib.Core.List.{List, ◌++◌, append_assoc}
use native.Mathlib.Numerals.{add-one}
use native.Mathlib.Omega.{arith}
use lib.IntN.{ℤ}
use lib.ListN.{length, take, drop, length-append, length-drop, take-append-drop}
use lib.Seq.{length-take-le, take_at, drop_at, drop-append-add, drop-drop}
use Rattle.laws.specs.Below.{end_to_end, sum}
use Rattle.laws.proofs.Sums.{sum_grows}
use Rattle.laws.proofs.EndToEnd.{length_multiples, starts_within, part_of}
use Rattle.laws.proofs.Tabulate.{length-tabulate, get_d_tabulate}
use Rattle.halfedges.specs.declared.table.HalfedgeTable.{HalfedgeTable}
use Rattle.halfedges.specs.Cage.{NEXT, PREV, most_halfedges, most_depth, cell}
use Rattle.halfedges.specs.Internal.Counts.{AtMost}
use Rattle.halfedges.specs.Counts.{finer, counts_at, Hs, Vs}
use Rattle.halfedges.proofs.Triangle.{prev_next, next_below, prev_below, next_past}
use Rattle.halfedges.proofs.Growth.{counts_more, levels_at_most}
use Rattle.tables.specs.Tables.{Tables}
use Rattle.splitting.specs.NextLevel.{new_vert, next_verts, level}
use Rattle.levels.specs.Refining.{levels_end_to_end}
use Rattle.creases.specs.Creases.{creases_at}
use Rattle.splitting.proofs.Rows.{at_across, at_back, at_middle}
use Rattle.points.specs.declared.weights.Weight.{Weight}
use Rattle.points.specs.NextPoints.{level_points}
use Rattle.points.specs.Internal.Relied.{Relied, Fourfold}
use Rattle.passes.specs.declared.level.Level.{Level}
use Rattle.passes.specs.Internal.Levels.{points_at, next_end, with_next, Ready, tables_at, with_next_at, ReadyLevel, cage_of, ReadyCount, ReadyCreased, cage_level, next_level, Climbs, cage_corners, point_levels, with_levels, ReadyLevels}
use Rattle.points.proofs.Range.{level_points_long, levels_in_range}

-- VERT of a level's next one: the rows of document 01
next_fourfold : (vert edge : List ℕ) (v : ℕ) → length vert % 3 ≡ 0 → length edge ≡ length vert → Fourfold (length vert) (next_verts vert edge v)
unfolding next_verts new_vert
next_fourfold vert edge v whole long =
    record {
      long = length-tabulate (4 * n) (new_vert vert edge v);
      whole = whole;
      corner = λ h b. back h b ∙ sym (across (PREV h) (prev_below whole b));
      from = λ h b. middle h b ∙ sym (back h b);
      end = λ h b.
          ap (cell (next_verts vert edge v)) (next_past n h) ∙ middle (NEXT h) (next_below whole b) ∙ ap (λ i. v + cell edge i) (prev_next h) ∙ sym (across h b);
    }
  where
    n : ℕ
    n = length vert

    new : (k : ℕ) → k < 4 * length vert → cell (next_verts vert edge v) k ≡ new_vert vert edge v k
    new k b = get_d_tabulate (4 * length vert) (new_vert vert edge v) k 0 b

    across : (h : ℕ) → h < length vert → cell (next_verts vert edge v) (3 * h + 1) ≡ v + cell edge h
    across h b = new (3 * h + 1) (omega arith) ∙ at_across (length vert) _ _ _ _ h b

    back : (h : ℕ) → h < length vert → cell (next_verts vert edge v) (3 * h + 2) ≡ v + cell edge (PREV h)
    back h b = new (3 * h + 2) (omega arith) ∙ at_back (length vert) _ _ _ _ h b

    middle : (h : ℕ) → h < length vert → cell (next_verts vert edge v) (3 * length vert + h) ≡ v + cell edge (PREV h)
    middle h b = new (3 * length vert + h) (omega arith) ∙ at_middle (length vert) _ _ _ _ h b

-- the halfedges of the level before level d, of which there is none before the cage
abbrev before_at : HalfedgeTable → ℕ → ℕ
before_at t zero = 0
before_at t (suc d) = Hs t d

-- the loop stands at level d: which level that is, and the table so far
pub record Stands (w : Weight) (t : HalfedgeTable) (depth : ℕ) (lent : Tables) (creases : List ℕ) (points : List ℤ) (d : ℕ) (x : Level) (q : List ℤ) : Type 0 where
  pub is_number : x.number ≡ d
  pub is_left : d + x.left ≡ depth
  pub is_before : x.before ≡ before_at t d
  pub is_counts : x.counts ≡ counts_at t d
  pub is_start : x.start ≡ sum d (Hs t)
  pub is_at : x.at ≡ 3 * sum d (Vs t)
  pub is_table : q ≡ with_levels w t d lent creases points

module _ (w : Weight) (t : HalfedgeTable) (depth : ℕ) (lent : Tables) (creases : List ℕ) (points : List ℤ) (ready : ReadyLevels t depth lent creases points) where
  abbrev c : Tables
  c = cage_of t lent

  -- the points of level d
  abbrev P : ℕ → List ℤ
  P = level_points w t c creases (take (3 * t.vertices) points)

  -- the table with levels 0 to d
  abbrev Q : ℕ → List ℤ
  Q d = with_levels w t d lent creases points

  -- room for the first n levels
  room_for : (n : ℕ) → n ≤ suc depth → 3 * sum n (Vs t) ≤ length points
  room_for n l = omega (arith, ready.room, sum_grows (Vs t) n (suc depth) l)

  cage_long : length (take (3 * t.vertices) points) ≡ 3 * t.vertices
  unfolding counts_at
  cage_long = length-take-le (3 * t.vertices) points (omega (arith, room_for 1 (omega arith)))

  level_long : (d : ℕ) → length (P d) ≡ 3 * Vs t d
  level_long = level_points_long w t c creases (take (3 * t.vertices) points) cage_long

  -- where level n's points start
  levels_long : (n : ℕ) → length (point_levels w t lent creases points n) ≡ 3 * sum n (Vs t)
  levels_long n = length_multiples 3 P (Vs t) n (λ i _. level_long i)

  table_long : (d : ℕ) → d ≤ depth → length (Q d) ≡ length points
  unfolding with_levels
  table_long d l =
      length-append (point_levels w t lent creases points (suc d)) (drop (length (point_levels w t lent creases points (suc d))) points)
      ∙ omega (arith, length-drop (length (point_levels w t lent creases points (suc d))) points, levels_long (suc d), room_for (suc d) (omega arith))

  pub climb_start : {x : Level} → x ≡ cage_level t depth → Stands w t depth lent creases points 0 x points
  unfolding with_levels level_points counts_at
  climb_start e =
      rw e
      (record { is_number = refl; is_left = omega arith; is_before = refl; is_counts = refl; is_start = refl; is_at = refl; is_table = sym (rw cage_long (take-append-drop (3 * t.vertices) points)) })

  module _ (d : ℕ) where
    abbrev rest : List ℤ
    rest = drop (length (point_levels w t lent creases points (suc d))) points

    -- level d stands where the code looks for it
    points_are : points_at (counts_at t d) (3 * sum d (Vs t)) (Q d) ≡ P d
    unfolding with_levels
    points_are =
        ap (take (3 * Vs t d)) (ap (drop (3 * sum d (Vs t))) (append_assoc (point_levels w t lent creases points d) (P d) rest) ∙ drop_at (point_levels w t lent creases points d) (P d ++ rest) (3 * sum d (Vs t)) (levels_long d))
        ∙ take_at (P d) rest (3 * Vs t d) (level_long d)

    levels_end : length (point_levels w t lent creases points (suc d)) ≡ 3 * sum d (Vs t) + 3 * Vs t d
    levels_end = levels_long (suc d) ∙ omega arith

    past_next : drop (next_end (counts_at t d) (3 * sum d (Vs t))) (Q d) ≡ drop (length (point_levels w t lent creases points (suc (suc d)))) points
    unfolding counts_at with_levels
    past_next =
        let E = point_levels w t lent creases points (suc d) in
        let more = 3 * ((counts_at t d).vertices + (counts_at t d).edges) in
        ap (λ k. drop (k + more) (Q d)) (sym levels_end)
        ∙ drop-append-add E rest more
        ∙ drop-drop more (length E) points
        ∙ ap (λ k. drop k points) (ap (λ k. length E + k) (sym (level_long (suc d))) ∙ sym (length-append E (P (suc d))))

    next_level_lem : with_next w (counts_at t d) (level t c d) (creases_at t creases d) (3 * sum d (Vs t)) (Q d) ≡ with_levels w t (suc d) lent creases points
    unfolding with_next with_levels level_points
    next_level_lem =
        let E = point_levels w t lent creases points (suc d) in
        rw (take_at E rest (3 * sum d (Vs t) + 3 * Vs t d) levels_end, points_are, past_next)
        (sym (append_assoc E (P (suc d)) (drop (length (point_levels w t lent creases points (suc (suc d)))) points)))

  -- a table that holds one list of H cells for each level, end to end
  module _ (f : ℕ → List ℕ) (table : List ℕ) (starts : take (length (end_to_end (suc depth) f)) table ≡ end_to_end (suc depth) f) (long : (i : ℕ) → i < depth → length (f i) ≡ Hs t i) (d : ℕ) (l : d < depth) where
    before : (n : ℕ) → n ≤ depth → length (end_to_end n f) ≡ 1 * sum n (Hs t)
    before n b = length_multiples 1 f (Hs t) n (λ i li. long i (omega arith) ∙ omega arith)

    lengths : (n : ℕ) → length (end_to_end n f) ≡ 1 * sum n (λ i. length (f i))
    lengths n = length_multiples 1 f (λ i. length (f i)) n (λ i _. omega arith)

    part_is : take (Hs t d) (drop (sum d (Hs t)) table) ≡ f d
    part_is =
        let s : length (end_to_end d f) ≡ sum d (Hs t) = omega (arith, before d (omega arith)) in
        rw (long d l, s) at (part_of f (suc depth) table starts d (omega arith))

    part_within : sum d (Hs t) + Hs t d ≤ length table
    part_within = omega (arith, before (suc d) l, lengths (suc d), lengths (suc depth), sum_grows (λ i. length (f i)) (suc d) (suc depth) (omega arith), starts_within (end_to_end (suc depth) f) table starts)

  vert_long : (i : ℕ) → i < depth → length (level t c i).vert ≡ Hs t i
  vert_long i l = (ready.relied i l).halfedges

  twin_long : (i : ℕ) → i < depth → length (level t c i).twin ≡ Hs t i
  twin_long i l = (ready.relied i l).bordered.long ∙ vert_long i l

  edge_long : (i : ℕ) → i < depth → length (level t c i).edge ≡ Hs t i
  edge_long i l = (ready.relied i l).carried.long ∙ twin_long i l

  -- above the cage each triangle of the level before became four
  level_fourfold : (d : ℕ) → d < depth → before_at t d ≢ 0 → Fourfold (before_at t d) (level t c d).vert
  unfolding level
  level_fourfold zero l some = absurd (some refl)
  level_fourfold (suc d) l some =
      let before = level t c d in
      rw (← vert_long d (omega arith))
      (next_fourfold before.vert before.edge (counts_at t d).vertices (ready.relied d (omega arith)).cornered.whole (edge_long d (omega arith) ∙ sym (vert_long d (omega arith))))

  module _ (d : ℕ) (l : d < depth) where
    parts_are : tables_at (counts_at t d) (sum d (Hs t)) lent ≡ level t c d
    unfolding levels_end_to_end
    parts_are =
        λ i. record {
          twin = part_is (λ j. (level t c j).twin) lent.twin ready.twins twin_long d l i;
          vert = part_is (λ j. (level t c j).vert) lent.vert ready.verts vert_long d l i;
          edge = part_is (λ j. (level t c j).edge) lent.edge ready.edges edge_long d l i;
        }

    parts_within : (sum d (Hs t) + Hs t d ≤ length lent.twin) × (sum d (Hs t) + Hs t d ≤ length lent.vert) × (sum d (Hs t) + Hs t d ≤ length lent.edge)
    unfolding levels_end_to_end
    parts_within = (
      part_within (λ i. (level t c i).twin) lent.twin ready.twins twin_long d l,
      part_within (λ i. (level t c i).vert) lent.vert ready.verts vert_long d l,
      part_within (λ i. (level t c i).edge) lent.edge ready.edges edge_long d l,
    )

    small : AtMost (4 ^ most_depth * most_halfedges) (counts_at t d)
    small = levels_at_most most_halfedges most_depth t ready.counts d (omega (arith, ready.deep))

    level_ready : Ready (cage_corners t lent) (before_at t d) (counts_at t d) (level t c d) (3 * sum d (Vs t)) (Q d)
    unfolding counts_at
    level_ready =
        record {
          relied = ready.relied d l;
          known = ready.known d l;
          fourfold = level_fourfold d l;
          short = omega (arith, small);
          in_range = rw (points_are d) (levels_in_range w t c creases (take (3 * t.vertices) points) depth ready.relied ready.in_range d (omega arith));
          room = rw (table_long d (omega arith)) (omega (arith, room_for (suc (suc d)) (omega arith)));
        }

  -- the loop's turn at level d
  module _ {d : ℕ} {x : Level} {q : List ℤ} (stands : Stands w t depth lent creases points d x q) (some : 0 < x.left) where
    deeper : d < depth
    deeper = omega (arith, stands.is_left)

    within : (long : ℕ) → sum d (Hs t) + Hs t d ≤ long → x.start + x.counts.halfedges ≤ long
    within long b = rw (stands.is_counts, stands.is_start) b

    level_asks : ReadyLevel (cage_corners t lent) x lent q
    level_asks =
        record {
          in_twin = within _ (parts_within d deeper).0;
          in_vert = within _ (parts_within d deeper).1;
          in_edge = within _ (parts_within d deeper).2;
          ready = rw (stands.is_before, stands.is_counts, stands.is_start, stands.is_at, stands.is_table, parts_are d deeper) (level_ready d deeper);
        }

    -- the cage's own part of the tables
    relied_cage : Relied t c
    unfolding counts_at level
    relied_cage = ready.relied 0 (omega (arith, deeper))

    count_asks : ReadyCount t creases lent
    unfolding counts_at
    count_asks =
        let w = parts_within 0 (omega (arith, deeper)) in
        let r = relied_cage in
        record {
          in_twin = omega (arith, w.0);
          in_vert = omega (arith, w.1);
          in_edge = omega (arith, w.2);
          few = ready.counts.vertices;
          cage = record {
            whole = r.cornered.whole;
            twin_long = r.bordered.long;
            edge_long = r.carried.long ∙ r.bordered.long;
            few = rw r.halfedges ready.counts.halfedges;
            numbered = λ h b. rw ready.numbered (r.carried.below h (rw (r.carried.long ∙ r.bordered.long) b));
          };
        }

    pub climb_asks : ReadyCreased (cage_corners t lent) t creases x lent q
    climb_asks =
        record {
          level = level_asks;
          limited = record { few = rw ready.numbered ready.counts.edges; deep = omega (arith, stands.is_number, deeper, ready.deep) };
          count = count_asks;
          known = rw (stands.is_number, stands.is_counts, stands.is_start, parts_are d deeper) (ready.creased d deeper);
        }

    climb_small : AtMost (4 ^ most_depth * most_halfedges) x.counts
    climb_small = rw stands.is_counts (small d deeper)

    climb_end : x.at + 3 * x.counts.vertices ≤ length points
    climb_end = rw (stands.is_counts, stands.is_at) (omega (arith, room_for (suc d) (omega (arith, deeper))))

    pub climb_fits : length lent.twin < 2 ^ 64 → length points < 2 ^ 64 → Climbs x
    climb_fits long points-long =
        let c = climb_small in
        record {
          some = some;
          number = omega (arith, stands.is_number, deeper, ready.deep);
          counts = record { halfedges = omega (arith, c.halfedges); edges = omega (arith, c.edges); vertices = omega (arith, c.vertices) };
          start = omega (arith, level_asks.in_twin);
          at = omega (arith, climb_end);
        }

    pub climb_on : {y : Level} {r : List ℤ} → y ≡ next_level x → r ≡ with_next_at w x lent (creases_at t creases x.number) q → Stands w t depth lent creases points (d + 1) y r
    climb_on e f =
        rw e
        (record {
          is_number = omega (arith, stands.is_number);
          is_left = omega (arith, stands.is_left);
          is_before = rw (add-one d) (ap (λ u. u.halfedges) stands.is_counts);
          is_counts = ap finer stands.is_counts ∙ counts_more t d;
          is_start = rw (add-one d, stands.is_start, stands.is_counts);
          is_at = rw (add-one d, stands.is_at, stands.is_counts) (omega arith);
          is_table = f ∙ rw (add-one d, stands.is_number, stands.is_counts, stands.is_start, stands.is_at, stands.is_table) (rw (parts_are d deeper) (next_level_lem d));
        })
