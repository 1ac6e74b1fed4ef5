-- The loops that write a level's next one into its tables, a triangle at a time: where they start (`filled-start`), one
-- triangle more in each table (`twins_on`, `verts_on`, `edges_on`), and what stands there in the end (`filled_done`). Assumes nothing.
use Prim.Native.Nat.{ℕ, ◌+◌, ◌*◌, ◌%◌, ◌≤◌, ◌<◌}
use mathlib.Core.Path.{◌≡◌, refl, sym, ap, ap₂, ◌∙◌}
use mathlib.Core.List.{List}
use native.Mathlib.Omega.{arith}
use lib.ListN.{length}
use Rattle.halfedges.specs.declared.table.HalfedgeTable.{HalfedgeTable}
use Rattle.splitting.specs.declared.halves.Halves.{Halves}
use Rattle.splitting.specs.declared.halves.Three.{Three}
use Rattle.splitting.specs.declared.split.Above.{Above}
use Rattle.splitting.specs.declared.split.Split.{Split}
use Rattle.laws.specs.Below.{tabulate}
use Rattle.laws.specs.Internal.Parts.{part}
use Rattle.laws.proofs.Parts.{length_part, part_at}
use Rattle.halfedges.specs.Cage.{PREV, cell, above}
use Rattle.halfedges.proofs.Triangle.{prev_first, prev_other}
use Rattle.splitting.specs.NextLevel.{new_twin, new_edge, new_vert, next_twins, next_edges, next_verts}
use Rattle.splitting.specs.Internal.InPlace.{most_small, trio, cells_at, EachOf, twin_halves, edge_halves, joined, join_twins, split_twins, split_verts, split_edges, set_split, with_split_edges, with_next, with_next_verts, with_next_edges, SmallTwin, SmallEdge, SmallEdges, Housed}
use Rattle.tables.specs.Internal.Above.{is_above}
use Rattle.splitting.proofs.Rows.{at_corner, at_across, at_back, at_middle}
use Rattle.splitting.proofs.Fill.{Going, split_by, going_start, going_on, going_before, going_done}

-- numbers counted up one by one, and by threes
pub count_one : (a h : ℕ) {c : Three} → c ≡ (a + h, a + h + 1, a + h + 2 * 1) → c ≡ trio (λ k. a + k) h
count_one a h e =
    let p : a + h + 1 ≡ a + (h + 1) = omega arith in
    let q : a + h + 2 * 1 ≡ a + (h + 2) = omega arith in
    e ∙ λ i. (a + h, p i, q i)

pub count_three : (h : ℕ) {c : Three} → c ≡ (3 * h + 1, 3 * h + 1 + 3, 3 * h + 1 + 2 * 3) → c ≡ trio (λ k. 3 * k + 1) h
count_three h e =
    let p : 3 * h + 1 + 3 ≡ 3 * (h + 1) + 1 = omega arith in
    let q : 3 * h + 1 + 2 * 3 ≡ 3 * (h + 2) + 1 = omega arith in
    e ∙ λ i. (3 * h + 1, p i, q i)

-- a triangle of a table of n halfedges
module _ (n h : ℕ) (first : h % 3 ≡ 0) (l : h + 3 ≤ n) where
  -- what each of its halfedges has
  each : (f g : ℕ → ℕ) → ((k : ℕ) → k < n → f k ≡ g k) → trio f h ≡ trio g h
  each f g e = λ i. (e h (omega arith) i, e (h + 1) (omega arith) i, e (h + 2) (omega arith) i)

  -- the halfedge before each
  first_before : h + 2 ≡ PREV h
  first_before = omega (arith, prev_first h first)

  second_before : h ≡ PREV (h + 1)
  second_before = omega (arith, first, prev_other (h + 1) (omega (arith, first)))

  third_before : h + 1 ≡ PREV (h + 2)
  third_before = omega (arith, first, prev_other (h + 2) (omega (arith, first)))

  -- its split by the new cells: from the halves of each halfedge, what is across and what is in the middle
  split_is : (new : ℕ → ℕ) (half : ℕ → Halves) (across : ℕ → ℕ) {middle : Three}
      → ((k : ℕ) → k < n → new (3 * k) ≡ (half k).0)
      → ((k : ℕ) → k < n → new (3 * k + 1) ≡ across k)
      → ((k p : ℕ) → k < n → p < n → p ≡ PREV k → new (3 * k + 2) ≡ (half p).1)
      → trio (λ k. new (3 * n + k)) h ≡ middle
      → split_by new n h ≡ joined (half h) (half (h + 1)) (half (h + 2)) (trio across h) middle
  unfolding joined
  split_is new half across p q r s =
      λ i.
      record {
        first = (p h (omega arith) i, q h (omega arith) i, r h (h + 2) (omega arith) (omega arith) first_before i);
        second = (p (h + 1) (omega arith) i, q (h + 1) (omega arith) i, r (h + 1) h (omega arith) (omega arith) second_before i);
        third = (p (h + 2) (omega arith) i, q (h + 2) (omega arith) i, r (h + 2) (h + 1) (omega arith) (omega arith) third_before i);
        middle = s i;
      }

-- which of a triangle's halfedges are above their twins
abbrev pub above_three : List ℕ → ℕ → ℕ → Above
above_three twin at h = (is_above (cell twin (at + h)) h, is_above (cell twin (at + (h + 1))) (h + 1), is_above (cell twin (at + (h + 2))) (h + 2))

-- the split of a triangle by the level's cells, as they lie in the tables
module _ (at n h : ℕ) (first : h % 3 ≡ 0) (l : h + 3 ≤ n) where
  twin_split : (twin : List ℕ) → at + n ≤ length twin → split_by (new_twin (part twin at n)) n h ≡ split_twins (cells_at twin at h) n h
  unfolding new_twin split_twins join_twins
  twin_split twin room =
      let long : length (part twin at n) ≡ n = length_part twin at n room in
      split_is n h first l (new_twin (part twin at n)) (λ k. twin_halves (cell twin (at + k))) (λ k. 3 * n + k)
      (λ k m. rw long (at_corner n _ _ _ _ k m ∙ rw (part_at twin at n k 0 m)))
      (λ k m. rw long (at_across n _ _ _ _ k m))
      (λ k p m o q. rw long (at_back n _ _ _ _ k m ∙ rw (← q, part_at twin at n p 0 o)))
      (each n h first l (λ k. new_twin (part twin at n) (3 * n + k)) (λ k. 3 * k + 1) (λ k m. rw long (at_middle n _ _ _ _ k m)))

  vert_split : (vert edge : List ℕ) (v : ℕ) → at + n ≤ length vert → split_by (new_vert (part vert at n) (part edge at n) v) n h ≡ split_verts (cells_at vert at h) (cells_at edge at h) v
  unfolding new_vert split_verts
  vert_split vert edge v room =
      let long : length (part vert at n) ≡ n = length_part vert at n room in
      let middle : (k p : ℕ) → k < n → p < n → p ≡ PREV k → new_vert (part vert at n) (part edge at n) v (3 * n + k) ≡ v + cell edge (at + p) =
      λ k p m o q. rw long (at_middle n _ _ _ _ k m ∙ rw (← q, part_at edge at n p 0 o)) in
      split_is n h first l (new_vert (part vert at n) (part edge at n) v) (λ k. (cell vert (at + k), v + cell edge (at + k))) (λ k. v + cell edge (at + k))
      (λ k m. rw long (at_corner n _ _ _ _ k m ∙ part_at vert at n k 0 m))
      (λ k m. rw long (at_across n _ _ _ _ k m ∙ rw (part_at edge at n k 0 m)))
      (λ k p m o q. rw long (at_back n _ _ _ _ k m ∙ rw (← q, part_at edge at n p 0 o)))
      (λ i. (
        middle h (h + 2) (omega arith) (omega arith) (first_before n h first l) i,
        middle (h + 1) h (omega arith) (omega arith) (second_before n h first l) i,
        middle (h + 2) (h + 1) (omega arith) (omega arith) (third_before n h first l) i,
      ))

  edge_split : (twin edge : List ℕ) (e : ℕ) → at + n ≤ length edge → split_by (new_edge (part twin at n) (part edge at n) e) n h ≡ split_edges (cells_at edge at h) (above_three twin at h) e h
  unfolding new_edge split_edges above
  edge_split twin edge e room =
      let long : length (part edge at n) ≡ n = length_part edge at n room in
      split_is n h first l (new_edge (part twin at n) (part edge at n) e) (λ k. edge_halves (cell edge (at + k)) (is_above (cell twin (at + k)) k)) (λ k. 2 * e + k)
      (λ k m. rw long (at_corner n _ _ _ _ k m ∙ rw (part_at edge at n k 0 m, part_at twin at n k 0 m)))
      (λ k m. rw long (at_across n _ _ _ _ k m))
      (λ k p m o q. rw long (at_back n _ _ _ _ k m ∙ rw (← q, part_at edge at n p 0 o, part_at twin at n p 0 o)))
      (each n h first l (λ k. new_edge (part twin at n) (part edge at n) e (3 * n + k)) (λ k. 2 * e + k) (λ k m. rw long (at_middle n _ _ _ _ k m)))

-- what holds of all cells of a level holds of a triangle's
all_three : (P : ℕ → Type 0) {f : ℕ → ℕ} {n h : ℕ} {c : Three} → ((k : ℕ) → k < n → P (f k)) → h + 3 ≤ n → c ≡ trio f h → EachOf P c
all_three P {f} {n} {h} all l e = rw e (all h (omega arith), all (h + 1) (omega arith), all (h + 2) (omega arith))

-- a loop has filled in the cells new of the triangles before h, after the small level of n halfedges that stands at an offset
pub record Filled (n at : ℕ) (new : ℕ → ℕ) (xs ys : List ℕ) (h : ℕ) : Type 0 where
  pub small : n ≤ most_small
  pub whole : n % 3 ≡ 0
  pub room : at + n + 4 * n ≤ length xs
  pub going : Going xs (at + n) n new ys h
  pub first : h % 3 ≡ 0
  pub within : h ≤ n

-- the same of each table, whose new cells are made of the level's
abbrev pub TwinsFilled : ℕ → ℕ → List ℕ → List ℕ → ℕ → Type 0
TwinsFilled n at twin = Filled n at (new_twin (part twin at n)) twin

abbrev pub VertsFilled : ℕ → ℕ → ℕ → List ℕ → List ℕ → List ℕ → ℕ → Type 0
VertsFilled n v at vert edge = Filled n at (new_vert (part vert at n) (part edge at n) v) vert

abbrev pub EdgesFilled : ℕ → ℕ → ℕ → List ℕ → List ℕ → List ℕ → ℕ → Type 0
EdgesFilled n e at edge twin = Filled n at (new_edge (part twin at n) (part edge at n) e) edge

pub filled-start : {t : HalfedgeTable} {at : ℕ} {xs : List ℕ} {new : ℕ → ℕ} → Housed t at xs → Filled t.halfedges at new xs xs 0
filled-start {t} {at} {xs} {new} s =
    let room : at + t.halfedges + 4 * t.halfedges ≤ length xs = omega (arith, s.room) in
    record { small = s.small.halfedges; whole = s.whole; room = room; going = going_start xs at t.halfedges new room; first = omega arith; within = omega arith }

module _ {n at h : ℕ} {new : ℕ → ℕ} {xs ys : List ℕ} (f : Filled n at new xs ys h) where
  filled_done : {m : ℕ} → n ≤ h → m ≡ n → ys ≡ with_next xs at n (tabulate (4 * m) new)
  filled_done l e =
      let d : at + n + 4 * n ≡ at + 5 * n = omega arith in
      going_done xs at n new f.room f.going (omega (arith, f.within)) ∙ rw (e, d)

  long_part : length (part xs at n) ≡ n
  long_part = length_part xs at n (omega (arith, f.room))

  -- a turn: its triangle
  module _ (l : h < n) where
    pub filled_three : (h + 3 ≤ n) × (n ≤ most_small)
    filled_three = (omega (arith, f.whole, f.first), f.small)

    -- the level is read as it was
    pub filled_before : (k : ℕ) → k < at + n → cell ys k ≡ cell xs k
    filled_before = going_before xs at n new f.room f.going

    filled-trio : cells_at ys at h ≡ cells_at xs at h
    filled-trio = each n h f.first filled_three.0 (λ k. cell ys (at + k)) (λ k. cell xs (at + k)) (λ k m. filled_before (at + k) (omega arith))

    -- what holds of the level's cells holds of the triangle's
    filled_all : (P : ℕ → Type 0) → ((k : ℕ) → k < n → P (cell xs (at + k))) → {c : Three} → c ≡ cells_at ys at h → EachOf P c
    filled_all P all e = all_three P all filled_three.0 (e ∙ filled-trio)

    filled_on : {zs : List ℕ} {r : Split} {k : ℕ} → zs ≡ set_split ys at n h r → r ≡ split_by new n h → k ≡ h + 3 → Filled n at new xs zs k
    filled_on e q o =
        rw o
        record {
          small = f.small;
          whole = f.whole;
          room = f.room;
          going = going_on xs at n new f.room f.going filled_three.0 (e ∙ ap (set_split ys at n h) q);
          first = omega (arith, f.first);
          within = filled_three.0;
        }

-- one triangle more in each table: what is asked of its cells, and its split; and the whole level in the end
module _ {n at h : ℕ} {xs ys : List ℕ} (f : TwinsFilled n at xs ys h) where
  pub twins_ready : {c : Three} → ((k : ℕ) → k < n → SmallTwin (cell xs (at + k))) → h < n → c ≡ cells_at ys at h → EachOf SmallTwin c × n ≤ most_small × h ≤ most_small
  twins_ready small l e = (filled_all f l SmallTwin small e, f.small, omega (arith, f.small))

  pub twins_on : {zs : List ℕ} {r : Split} {c : Three} → h < n → c ≡ cells_at ys at h → r ≡ split_twins c n h → zs ≡ set_split ys at n h r → {k : ℕ} → k ≡ h + 3 → TwinsFilled n at xs zs k
  twins_on l e q p =
      filled_on f l p
      (q ∙ ap (λ c. split_twins c n h) (e ∙ filled-trio f l) ∙ sym (twin_split at n h f.first (filled_three f l).0 xs (omega (arith, f.room))))

  pub twins_done : n ≤ h → ys ≡ with_next xs at n (next_twins (part xs at n))
  unfolding next_twins
  twins_done l = filled_done f l (long_part f)

module _ {t : HalfedgeTable} {at : ℕ} {other : List ℕ} (o : Housed t at other) {h : ℕ} {xs ys : List ℕ} where
  module _ (f : VertsFilled t.halfedges t.vertices at xs other ys h) where
    pub verts_on : {zs : List ℕ} {r : Split} {c d : Three} → h < t.halfedges → c ≡ cells_at ys at h → d ≡ cells_at other at h → r ≡ split_verts c d t.vertices → zs ≡ set_split ys at t.halfedges h r → {k : ℕ} → k ≡ h + 3 → VertsFilled t.halfedges t.vertices at xs other zs k
    verts_on l e d q p =
        filled_on f l p
        (q ∙ ap₂ (λ c d. split_verts c d t.vertices) (e ∙ filled-trio f l) d
        ∙ sym (vert_split at t.halfedges h f.first (filled_three f l).0 xs other t.vertices (omega (arith, f.room))))

    pub verts_done : t.halfedges ≤ h → ys ≡ with_next_verts xs other at t
    unfolding next_verts
    verts_done l = filled_done f l (long_part f)

  module _ (f : EdgesFilled t.halfedges t.edges at xs other ys h) where
    pub edges_ready : SmallEdges t at xs → h < t.halfedges → EachOf SmallEdge (cells_at ys at h)
    edges_ready small l = filled_all f l SmallEdge small refl

    pub edges_on : {zs : List ℕ} {up : Above} → h < t.halfedges → up ≡ above_three other at h → zs ≡ with_split_edges ys at t h up → {k : ℕ} → k ≡ h + 3 → EdgesFilled t.halfedges t.edges at xs other zs k
    edges_on l p e =
        filled_on f l e
        (ap₂ (λ c up. split_edges c up t.edges h) (filled-trio f l) p
        ∙ sym (edge_split at t.halfedges h f.first (filled_three f l).0 other xs t.edges (omega (arith, f.room))))

    pub edges_done : t.halfedges ≤ h → ys ≡ with_next_edges xs other at t
    unfolding next_edges
    edges_done l = filled_done f l (long_part f)
