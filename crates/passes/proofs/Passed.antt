-- The four passes, one after the other, leave the next level's points: `passed`. What each asks of the table that the one before
-- left: `gathers`, `settles`, `writes`. Assumes nothing.
use Prim.Native.Nat.{ℕ, ◌+◌, ◌-◌, ◌*◌, ◌/◌, ◌%◌, ◌≤◌, ◌<◌}
use mathlib.Core.Path.{◌≡◌, sym, ap, ap₂, ◌∙◌}
use mathlib.Core.Logic.{◌≢◌}
use mathlib.Core.List.{List, [], map}
use native.Mathlib.Decide.{ℕ_discrete, dec_lt}
use native.Mathlib.Nat.{le_refl}
use native.Mathlib.Omega.{arith}
use lib.Dec.{eqb}
use lib.IntN.{ℤ, nat_abs, ◌+ℤ◌, +ℤ_idl}
use lib.ListN.{length, take}
use borrow.Author.Tests.{lt-ltb, le-ltb, eqb-false}
use Rattle.laws.specs.Below.{count}
use Rattle.laws.specs.Internal.Steps.{steps}
use Rattle.laws.proofs.Cases.{cond_keeps}
use Rattle.halfedges.specs.declared.table.HalfedgeTable.{HalfedgeTable}
use Rattle.tables.specs.Tables.{Tables}
use Rattle.points.specs.declared.weights.Weight.{Weight}
use Rattle.points.specs.PointRules.{V2, V3}
use Rattle.points.specs.NextPoints.{coordinate, spoke_ends, crease_ends, vertex_point, new_point}
use Rattle.laws.specs.Totals.{total}
use Rattle.points.specs.Operations.{most_coordinate}
use Rattle.points.specs.Internal.Relied.{known_corners, Fourfold, border_leaves, border_ends, Relied}
use Rattle.points.specs.Internal.Cells.{value}
use Rattle.spokes.specs.Internal.Sums.{Laid, clear_cell, Gathers}
use Rattle.spokes.specs.Internal.Spokes.{gathered}
use Rattle.points.specs.Internal.Parts.{AsksInside}
use Rattle.spokes.specs.Internal.Vertices.{settle, SettlesAt}
use Rattle.edgepoints.specs.Internal.Edges.{Edged, Started, put_edge}
use Rattle.passes.specs.Internal.Levels.{Ready, with_next}
use Rattle.points.proofs.Numerators.{V3_at_most}
use Rattle.points.proofs.Ends.{spoke_sum, spokes_are, spokes_at_most, corners-counted, crease_sum, creases_are, creases_counted}
use Rattle.points.proofs.Range.{any_in_range}
use Rattle.points.proofs.Only.{Only, only_on, only_wider}
use Rattle.points.proofs.Holding.{Holds, holds_own, holds_on}
use Rattle.spokes.proofs.Added.{laid_on}
use Rattle.spokes.proofs.Cleared.{cleared_only, cleared_all}
use Rattle.spokes.proofs.Gathered.{gathered_only, sum_is}
use Rattle.spokes.proofs.FourSpokes.{fours_only, fours_sum}
use Rattle.spokes.proofs.Settled.{settled_only, settled_is}
use Rattle.edgepoints.proofs.Meeting.{stage}
use Rattle.edgepoints.proofs.Written.{written_only, edge_written, started_before}
use Rattle.edgepoints.proofs.Joined.{joined_is}
use Rattle.passes.proofs.Next.{next_from}

module _ (w : Weight) (own : List ℕ) (before : ℕ) (t : HalfedgeTable) (c : Tables) (l : List ℤ) (ready : Ready own before t c 0 l) where
  abbrev n : ℕ
  n = t.vertices

  abbrev H : ℕ
  H = length c.vert

  abbrev points : List ℤ
  points = take (3 * n) l

  relied : Relied t c
  relied = ready.relied

  -- the table after each pass
  abbrev pub after_clear : List ℤ
  after_clear = steps (3 * n) (clear_cell n) l

  abbrev pub after_gather : List ℤ
  after_gather = gathered c.vert n before after_clear

  abbrev pub after_settle : List ℤ
  after_settle = steps (3 * n) (settle w own n) after_gather

  abbrev pub after_write : List ℤ
  after_write = steps H (put_edge c.twin c.vert c.edge n after_settle) after_settle

  laid : Laid n l
  laid = record { room = omega (arith, ready.room); in_range = ready.in_range }

  -- each keeps to the next level's cells
  clear_only : Only (3 * n) (6 * n) l after_clear
  clear_only = cleared_only n l laid.room (3 * n) (le_refl _)

  clear_laid : Laid n after_clear
  clear_laid = laid_on laid clear_only

  gather_only : Only (3 * n) (6 * n) l after_gather
  unfolding gathered
  gather_only =
      only_on clear_only
      (cond_keeps (Only (3 * n) (6 * n) after_clear) (eqb before 0)
      (λ _. gathered_only c.vert n relied.cornered after_clear clear_laid.room H (le_refl _))
      (λ e. fours_only c.vert n relied.cornered before (ready.fourfold (eqb-false before 0 e)) after_clear (before / 3) (le_refl _)))

  gather_laid : Laid n after_gather
  gather_laid = laid_on laid gather_only

  settle_only : Only (3 * n) (6 * n) l after_settle
  settle_only =
      only_on gather_only
      (only_wider (3 * n) (6 * n) (le_refl _) (omega arith) (settled_only w own n after_gather gather_laid.room (3 * n) (le_refl _)))

  settle_laid : Laid n after_settle
  settle_laid = laid_on laid settle_only

  -- what the second pass asks
  pub gathers : Gathers c.vert n after_clear × (before ≢ 0 → Fourfold before c.vert)
  gathers = (record { cornered = relied.cornered; laid = clear_laid; cleared = cleared_all n l laid.room }, ready.fourfold)

  held : {to : ℕ} {m : List ℤ} → Only (3 * n) to l m → Holds n points m
  held only = holds_on (le_refl _) (holds_own n l) only

  small : (k u : ℕ) → nat_abs (coordinate points k u) ≤ most_coordinate
  small k u = any_in_range points ready.in_range (3 * u + k)

  module _ (v k : ℕ) (lv : v < n) (lk : k < 3) where
    abbrev spokes : ℤ
    spokes = total (map (coordinate points k) (spoke_ends c.vert v))

    spokes_small : nat_abs spokes ≤ most_coordinate * known_corners own v
    spokes_small =
        let few = relied.cornered.few v lv in
        let most = ready.known.most v lv in
        rw (spokes_are c.vert v points k)
        (omega (arith, spokes_at_most c.vert v points k most_coordinate (small k) H, corners-counted c.vert v, most))

    spoke-sum : value after_gather (3 * n + 3 * v + k) ≡ spokes
    unfolding gathered
    spoke-sum =
        let e : 3 * n + (3 * v + k) ≡ 3 * n + 3 * v + k = omega arith in
        cond_keeps (λ q. value q (3 * n + 3 * v + k) ≡ spoke_sum c.vert points k v H) (eqb before 0)
        (λ _. sum_is c.vert n relied.cornered after_clear clear_laid.room points (held clear_only) ready.in_range gathers.0.cleared v k lv lk H (le_refl _))
        (λ z. fours_sum c.vert n relied.cornered before (ready.fourfold (eqb-false before 0 z)) after_clear clear_laid.room points (held clear_only) v k lv lk
        ∙ ap (λ z. z +ℤ spoke_sum c.vert points k v H) (rw e at (gathers.0.cleared (3 * v + k) (omega arith)))
        ∙ +ℤ_idl _)
        ∙ sym (spokes_are c.vert v points k)

    place_now : coordinate after_gather k v ≡ coordinate points k v
    place_now = (held gather_only).same v k lv lk

    settles_one : AsksInside (known_corners own v) (coordinate after_gather k v) (value after_gather (3 * n + 3 * v + k))
    settles_one =
        rw (spoke-sum, place_now)
        (record { some = omega (arith, relied.cornered.some v lv, ready.known.most v lv); few = ready.known.few v lv; place = small k v; small = spokes_small })

    -- V.3 of the known corners, in range
    settled_place : value after_settle (3 * n + 3 * v + k) ≡ V3 w (known_corners own v) (coordinate points k v) spokes
    settled_place =
        let e : 3 * n + (3 * v + k) ≡ 3 * n + 3 * v + k = omega arith in
        let q : (3 * v + k) / 3 ≡ v = omega arith in
        (rw (e, q) at (settled_is w own n after_gather gather_laid.room (3 * v + k) (3 * n) (le_refl _) (omega arith)))
        ∙ ap₂ (V3 w (known_corners own v)) place_now spoke-sum

    place_small : nat_abs (value after_settle (3 * n + 3 * v + k)) ≤ most_coordinate
    place_small =
        rw settled_place
        (V3_at_most most_coordinate w (known_corners own v) (coordinate points k v) spokes (omega (arith, relied.cornered.some v lv, ready.known.most v lv)) (small k v) spokes_small)

  -- what the third pass asks
  pub settles : (length own ≤ n) × (6 * n ≤ length after_gather) × ((i : ℕ) → i < 3 * n → SettlesAt own n i after_gather)
  settles = (
    ready.known.fewer,
    gather_laid.room,
    λ i b.
        let e : 3 * (i / 3) + i % 3 ≡ i = omega arith in
        let d : 3 * n + 3 * (i / 3) + i % 3 ≡ 3 * n + i = omega arith in
        rw (e, d) at (settles_one (i / 3) (i % 3) (omega arith) (omega arith)),
  )

  room_now : 6 * n + 3 * t.edges ≤ length after_settle
  room_now = rw settle_only.long (omega (arith, ready.room))

  edged : Edged c.twin c.vert c.edge n after_settle
  edged =
      record {
        cornered = relied.cornered;
        twin_long = relied.bordered.long;
        edge_long = relied.carried.long ∙ relied.bordered.long;
        short = omega (arith, relied.halfedges, ready.short);
        room = λ h b. omega (arith, room_now, relied.carried.below h (omega (arith, relied.bordered.long, relied.carried.long)));
        in_range = settle_laid.in_range;
      }

  -- what the last pass asks
  pub writes : Edged c.twin c.vert c.edge n after_settle × ((h : ℕ) → h < H → Started c.twin c.edge n h (steps h (put_edge c.twin c.vert c.edge n after_settle) after_settle))
  writes = (edged, started_before c.twin c.vert c.edge n points after_settle edged (held settle_only) t.edges relied.carried room_now ready.in_range)

  module _ (v k : ℕ) (lv : v < n) (lk : k < 3) where
    -- how many border halfedges leave v, and how many neighbours it meets
    abbrev leaving : ℕ
    leaving = count H (border_leaves c.twin c.vert v)

    abbrev ends : ℕ
    ends = length (crease_ends c [] v)

    vertex_is : value after_write (3 * n + 3 * v + k) ≡ vertex_point w c [] points v k
    unfolding vertex_point
    vertex_is =
        joined_is c.twin c.vert c.edge n points after_settle edged (held settle_only) t.edges relied.carried room_now v k lv lk ready.in_range relied.bordered (place_small v k lv lk) H (le_refl _)
        ∙ by (ℕ_discrete leaving 0)
      where
        met : ℕ
        met = leaving + count H (border_ends c.twin c.vert v)

        by : Dec (leaving ≡ 0) → stage met (value after_settle (3 * n + 3 * v + k)) (coordinate points k v) (crease_sum c [] points k v H) ≡ vertex_point w c [] points v k
        by (yes z) =
            let none : met ≡ 0 = omega (arith, z, relied.bordered.pair v lv) in
            let no-ends : ends ≡ 0 = omega (arith, none, creases_counted c [] v) in
            rw (no-ends)
            (ap (λ m. stage m (value after_settle (3 * n + 3 * v + k)) (coordinate points k v) (crease_sum c [] points k v H)) none
            ∙ settled_place v k lv lk ∙ ap (λ m. V3 w m (coordinate points k v) (spokes v k lv lk)) (sym (ready.known.inside v lv z)))
        by (no z) =
            let two : met ≡ 2 = omega (arith, z, relied.bordered.pair v lv, relied.bordered.one v lv) in
            let two_ends : ends ≡ 2 = omega (arith, two, creases_counted c [] v) in
            rw (two_ends)
            (ap (λ m. stage m (value after_settle (3 * n + 3 * v + k)) (coordinate points k v) (crease_sum c [] points k v H)) two
            ∙ ap (V2 (coordinate points k v)) (sym (creases_are c [] v points k)))

  write_only : Only (3 * n) (6 * n + 3 * t.edges) l after_write
  write_only =
      only_on (only_wider (3 * n) (6 * n + 3 * t.edges) (le_refl _) (omega arith) settle_only)
      (written_only c.twin c.vert c.edge n points after_settle edged (held settle_only) t.edges relied.carried room_now H (le_refl _))

  -- every cell of the next level is its point's
  new_is : (u k : ℕ) → u < n + t.edges → k < 3 → value after_write (3 * n + (3 * u + k)) ≡ new_point w t c [] points u k
  unfolding new_point
  new_is u k lu lk = by (dec_lt u n)
    where
      by : Dec (u < n) → value after_write (3 * n + (3 * u + k)) ≡ new_point w t c [] points u k
      by (yes lv) =
          let e : 3 * n + (3 * u + k) ≡ 3 * n + 3 * u + k = omega arith in
          rw (e, lt-ltb u n lv) (vertex_is u k lv lk)
      by (no lv) =
          let e : 3 * n + (3 * u + k) ≡ 6 * n + 3 * (u - n) + k = omega (arith, lv) in
          let le : u - n < t.edges = omega (arith, lv) in
          rw (e, le-ltb u n (omega (arith, lv)))
          (edge_written c.twin c.vert c.edge n points after_settle edged (held settle_only) t.edges relied.carried room_now (u - n) k le lk)

  pub passed : after_write ≡ with_next w t c [] 0 l
  passed = next_from w t c [] l ready.room write_only new_is
