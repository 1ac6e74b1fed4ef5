-- What the fifth pass leaves in the vertices' cells: the new place of every vertex, by the level's creases, `vertex_drawn`. Assumes
-- nothing.
use Prim.Native.Nat.{ℕ, zero, suc, ◌+◌, ◌*◌, ◌≤◌, ◌<◌}
use mathlib.Core.Path.{◌≡◌, refl, sym, ap, ◌∙◌, subst}
use mathlib.Core.Logic.{◌≢◌}
use mathlib.Core.Bool.{Bool, true, false, cond, ◌&&◌, ◌||◌, true≢false}
use mathlib.Core.List.{List, [], ◌++◌, map}
use native.Mathlib.Decide.{ℕ_discrete, dec_lt}
use native.Mathlib.Nat.{le_refl, not-suc-le-zero}
use native.Mathlib.Omega.{arith}
use lib.IntN.{ℤ, pos, nat_abs, ◌+ℤ◌, +ℤ_idr}
use lib.ListN.{length}
use borrow.Author.Tests.{eq-eqb, ne_eqb, lt-ltb, le-ltb, eqb-true, ltb-true}
use Rattle.laws.specs.Below.{count, select, any}
use Rattle.laws.specs.Totals.{total}
use Rattle.laws.specs.Internal.Steps.{steps}
use Rattle.laws.proofs.Tests.{by-test, and_true, and_false, or_false_right, any_false, any_true}
use Rattle.laws.proofs.Cases.{cond_keeps}
use Rattle.laws.proofs.Counts.{count_split}
use Rattle.laws.proofs.Select.{count_grows, count_before}
use Rattle.laws.proofs.Integers.{zero_of_nat_abs}
use Rattle.laws.proofs.Totals.{scan_more, scan_at_most}
use Rattle.halfedges.specs.declared.table.HalfedgeTable.{HalfedgeTable}
use Rattle.halfedges.specs.Cage.{marker, cell, border}
use Rattle.tables.specs.Tables.{Tables, leaves}
use Rattle.points.specs.declared.weights.Weight.{Weight}
use Rattle.points.specs.NextPoints.{coordinate, far, crease_ends, vertex_point}
use Rattle.points.specs.Operations.{most_coordinate, InRange}
use Rattle.points.specs.Internal.Relied.{border_leaves, border_ends, crease_leaves}
use Rattle.points.specs.Internal.Creased.{known_creases}
use Rattle.points.specs.Internal.Cells.{value}
use Rattle.points.specs.Internal.Parts.{met}
use Rattle.points.proofs.Ends.{leaving_sum, ending_sum, creases_are, creases_counted}
use Rattle.points.proofs.Range.{any_in_range}
use Rattle.edgepoints.proofs.Meeting.{stage, meets}
use Rattle.seams.proofs.Seaming.{changed}
use Rattle.seams.proofs.Turns.{Seams, after, inner, after_only, vertex_turn}

-- tests that agree below n select the same numbers
select_same : (n : ℕ) (p q : ℕ → Bool) → ((k : ℕ) → k < n → p k ≡ q k) → select n p ≡ select n q
select_same zero p q e = refl
select_same (suc n) p q e = rw (e n (le_refl _), select_same n p q (λ k l. e k (omega arith)))

-- a test that none below n passes, by its count
none_counted : (n : ℕ) (p : ℕ → Bool) → count n p ≡ 0 → (k : ℕ) → k < n → p k ≡ false
none_counted n p z k l = by-test (p k) (λ t. absurd (omega (arith, count_before p k n l t))) (λ f. f)

-- a border adds nothing to a crease where it does not leave
without : (i b l : Bool) → (b && l) ≡ false → (i && l) ≡ ((i || b) && l)
without true b l e = refl
without false b l e = sym e

-- nor an inner edge to a border, where it does not leave
within : (i b l : Bool) → (i && l) ≡ false → ((i || b) && l) ≡ (b && l)
within true b true e = absurd (true≢false e)
within true b false e = sym (and_false b)
within false b l e = refl

module _ (t : HalfedgeTable) (c : Tables) (creases : List ℕ) (level : ℕ) (counts sharp : List ℕ) (points m : List ℤ) (seams : Seams t c creases level counts sharp points m) (v k : ℕ) (lv : v < t.vertices) (lk : k < 3) where
  abbrev now : ℕ → List ℤ
  now = after t c creases level counts sharp points m seams

  abbrev sharpened : ℕ → Bool
  sharpened = inner t c creases level counts sharp points m seams

  abbrev H : ℕ
  H = length c.vert

  abbrev at : ℕ
  at = 3 * t.vertices + 3 * v + k

  abbrev x : ℤ
  x = coordinate points k v

  abbrev far_end : ℕ → ℤ
  far_end h = coordinate points k (far c.vert h)

  -- how many creases v has where one of them lies inside
  abbrev K : ℕ
  K = known_creases counts v

  -- h is an inner crease that leaves v
  abbrev inner_leaves : ℕ → Bool
  inner_leaves h = sharpened h && leaves c.vert v h

  long : (i : ℕ) → i ≤ H → length (now i) ≡ length m
  long i b = (after_only t c creases level counts sharp points m seams i b).long

  turn : (i : ℕ) → i < H → value (now (suc i)) at ≡ cond (inner_leaves i) (changed K (value (now i) at) x (far_end i)) (value (now i) at)
  unfolding steps
  turn i b = vertex_turn t c creases level counts sharp points m seams i b (now i) k lk v lv (long i (omega arith))

  -- no turn changes the cell
  kept : ((h : ℕ) → h < H → (z : ℤ) → cond (inner_leaves h) (changed K z x (far_end h)) z ≡ z) → (i : ℕ) → i ≤ H → value (now i) at ≡ value m at
  unfolding steps
  kept s zero b = refl
  kept s (suc i) b = turn i b ∙ s i b (value (now i) at) ∙ kept s i (omega arith)

  -- with more than two creases the first turn leaves the vertex's own point there
  put : 2 < K → (h : ℕ) → inner_leaves h ≡ true → (i : ℕ) → i ≤ H → h < i → value (now i) at ≡ x
  unfolding steps
  put more h own zero b before = absurd (not-suc-le-zero before)
  put more h own (suc i) b before = turn i b ∙ by-test (inner_leaves i) here (λ f. there f (λ l. put more h own i (omega arith) l))
    where
      here : inner_leaves i ≡ true → cond (inner_leaves i) (changed K (value (now i) at) x (far_end i)) (value (now i) at) ≡ x
      here e = rw (e, le-ltb K 2 (omega arith), ne_eqb K 2 (λ q. omega arith))

      there : inner_leaves i ≡ false → (h < i → value (now i) at ≡ x) → cond (inner_leaves i) (changed K (value (now i) at) x (far_end i)) (value (now i) at) ≡ x
      there f ih =
          let apart : h ≢ i = λ q. true≢false (sym own ∙ ap inner_leaves q ∙ f) in
          rw f (ih (omega (arith, apart)))

  -- how many creases leave v, and how many borders leave it and end there
  abbrev leaving : ℕ
  leaving = count H (crease_leaves c sharp v)

  abbrev borders : ℕ
  borders = count H (border_leaves c.twin c.vert v)

  abbrev ending : ℕ
  ending = count H (border_ends c.twin c.vert v)

  -- with two creases, and none of them a border, v meets their far ends one after the other
  module _ (two : K ≡ 2) (none : borders ≡ 0) (all : leaving ≡ 2) (range : InRange points) (place : nat_abs (value m at) ≤ most_coordinate) where
    is_crease : (i : ℕ) → i < H → inner_leaves i ≡ crease_leaves c sharp v i
    is_crease i b = without (sharpened i) (border c.twin i) (leaves c.vert v i) (none_counted H (border_leaves c.twin c.vert v) none i b)

    small : (u : ℕ) → nat_abs (coordinate points k u) ≤ most_coordinate
    small u = any_in_range points range (3 * u + k)

    joined : (i : ℕ) → i ≤ H → value (now i) at ≡ stage (count i (crease_leaves c sharp v)) (value m at) x (leaving_sum c sharp points k v i)
    unfolding steps
    joined zero b = refl
    joined (suc i) b =
        turn i b ∙ meeting
        ∙ ap (λ z. cond (crease_leaves c sharp v i) (met z x (far_end i)) z) (joined i (omega arith))
        ∙ meets (value m at) x place (small v) (count i (crease_leaves c sharp v)) (leaving_sum c sharp points k v i) (far_end i) (crease_leaves c sharp v i) few
        (scan_at_most far_end (crease_leaves c sharp v) most_coordinate (λ h. small (far c.vert h)) i)
        ∙ ap (stage (count (suc i) (crease_leaves c sharp v)) (value m at) x) (sym (scan_more far_end (crease_leaves c sharp v) i))
      where
        meeting : cond (inner_leaves i) (changed K (value (now i) at) x (far_end i)) (value (now i) at) ≡ cond (crease_leaves c sharp v i) (met (value (now i) at) x (far_end i)) (value (now i) at)
        meeting = rw (two, is_crease i b)

        few : count (suc i) (crease_leaves c sharp v) ≤ 2
        few = omega (arith, all, count_grows (crease_leaves c sharp v) (suc i) H b)

  -- the creases that leave v are inner ones or borders
  parts : leaving ≡ count H inner_leaves + borders
  parts = count_split H (crease_leaves c sharp v) inner_leaves (border_leaves c.twin c.vert v) (λ h b. by-test (border c.twin h) (on_border_lem h b) (inside h))
    where
      on_border_lem : (h : ℕ) → h < H → border c.twin h ≡ true → cond (crease_leaves c sharp v h) 1 0 ≡ cond (inner_leaves h) 1 0 + cond (border_leaves c.twin c.vert v h) 1 0
      on_border_lem h b e =
          let z = seams.known.border_none h (omega (arith, seams.relied.bordered.long)) (eqb-true (cell c.twin h) marker e) in
          rw (e, z) (omega arith)

      inside : (h : ℕ) → border c.twin h ≡ false → cond (crease_leaves c sharp v h) 1 0 ≡ cond (inner_leaves h) 1 0 + cond (border_leaves c.twin c.vert v h) 1 0
      inside h e = rw (e, or_false_right (sharpened h)) (omega arith)

  -- how many ends the creases at v have, with inner ones and without
  abbrev ends : ℕ
  ends = length (crease_ends c sharp v)

  abbrev border_ends_lem : ℕ
  border_ends_lem = length (crease_ends c [] v)

  -- no inner crease leaves v: its creases are those on a border
  same_ends : any H inner_leaves ≡ false → crease_ends c sharp v ≡ crease_ends c [] v
  unfolding crease_ends
  same_ends f =
      let same = select_same H (crease_leaves c sharp v) (border_leaves c.twin c.vert v) (λ h b. within (sharpened h) (border c.twin h) (leaves c.vert v h) (any_false inner_leaves H f h b)) in
      ap (λ hs. map (far c.vert) hs ++ map (cell c.vert) (select H (border_ends c.twin c.vert v))) same

  module _ (w : Weight) (range : InRange points) (before : value m at ≡ vertex_point w c [] points v k) (place : nat_abs (value m at) ≤ most_coordinate) where
    none_inside : any H inner_leaves ≡ false → value (now H) at ≡ vertex_point w c sharp points v k
    unfolding vertex_point
    none_inside f = kept (λ h b z. rw (any_false inner_leaves H f h b)) H (le_refl _) ∙ before ∙ rw (same_ends f)

    -- halfedge h is an inner crease that leaves v
    module _ (h : ℕ) (b : h < H) (own : inner_leaves h ≡ true) where
      some : 1 ≤ count H inner_leaves
      some = omega (arith, count_before inner_leaves h H b own)

      ends_known : ends ≡ K
      ends_known =
          let parted = and_true (sharpened h) (leaves c.vert v h) own in
          subst (λ u. length (crease_ends c sharp u) ≡ known_creases counts u) (eqb-true (cell c.vert h) v parted.1) (seams.known.known h b (ltb-true 0 (cell sharp (cell c.edge h)) parted.0))

      counted : ends ≡ count H inner_leaves + borders + ending
      counted = omega (arith, creases_counted c sharp v, parts)

      counted_borders : border_ends_lem ≡ borders + ending
      counted_borders = creases_counted c [] v

      few_inside : K < 2 → value (now H) at ≡ vertex_point w c sharp points v k
      unfolding vertex_point
      few_inside few =
          kept (λ h b z. rw (lt-ltb K 2 few) (cond_keeps (λ y. y ≡ z) (inner_leaves h) (λ _. refl) (λ _. refl))) H (le_refl _)
          ∙ before
          ∙ rw (lt-ltb border_ends_lem 2 (omega (arith, few, ends_known, counted, counted_borders, some)), lt-ltb ends 2 (omega (arith, few, ends_known)))

      more_inside : 2 < K → value (now H) at ≡ vertex_point w c sharp points v k
      unfolding vertex_point
      more_inside more =
          put more h own H (le_refl _) b
          ∙ rw (le-ltb ends 2 (omega (arith, more, ends_known)), ne_eqb ends 2 (λ q. omega (arith, more, ends_known, q)))

      two_inside : K ≡ 2 → value (now H) at ≡ vertex_point w c sharp points v k
      unfolding vertex_point
      two_inside two =
          let none : borders ≡ 0 = omega (arith, two, ends_known, counted, some, seams.relied.bordered.pair v lv) in
          let all : leaving ≡ 2 = omega (arith, two, ends_known, counted, parts, seams.relied.bordered.pair v lv, none) in
          let no_end : ending_sum c.twin c.vert points k v H ≡ pos 0 = zero_of_nat_abs _ (omega (arith, none, seams.relied.bordered.pair v lv, scan_at_most (λ h. coordinate points k (cell c.vert h)) (border_ends c.twin c.vert v) most_coordinate (λ h. any_in_range points range (3 * cell c.vert h + k)) H)) in
          let sum : total (map (coordinate points k) (crease_ends c sharp v)) ≡ leaving_sum c sharp points k v H = creases_are c sharp v points k ∙ ap (λ z. leaving_sum c sharp points k v H +ℤ z) no_end ∙ +ℤ_idr _ in
          joined two none all range place H (le_refl _)
          ∙ ap (λ i. stage i (value m at) x (leaving_sum c sharp points k v H)) all
          ∙ rw (le-ltb ends 2 (omega (arith, two, ends_known)), eq-eqb ends 2 (ends_known ∙ two), sum)

    pub vertex_drawn : value (now H) at ≡ vertex_point w c sharp points v k
    vertex_drawn = by-test (any H inner_leaves) (λ e. let a = any_true inner_leaves H e in by a.0 a.1 a.2 (dec_lt K 2) (ℕ_discrete K 2)) none_inside
      where
        by : (h : ℕ) → h < H → inner_leaves h ≡ true → Dec (K < 2) → Dec (K ≡ 2) → value (now H) at ≡ vertex_point w c sharp points v k
        by h b own (yes few) _ = few_inside h b own few
        by h b own (no _) (yes two) = two_inside h b own two
        by h b own (no more) (no two) = more_inside h b own (omega (arith, more, two))
