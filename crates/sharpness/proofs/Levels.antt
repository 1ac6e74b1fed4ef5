-- Every level of every cage whose tables and creases are accepted, at every depth that is allowed: `accepted_creases`, all that is kept of
-- its creases, and `known_creases_lem`, what the point rules rely on. Assumes nothing.
use Prim.Native.Nat.{ℕ, zero, suc, ◌+◌, ◌-◌, ◌≤◌, ◌<◌}
use mathlib.Core.Path.{◌≡◌, refl, sym, ap, subst, ◌∙◌}
use mathlib.Core.Logic.{inl, inr}
use mathlib.Core.Bool.{Bool, true, false, cond}
use mathlib.Core.List.{List}
use native.Mathlib.Decide.{ℕ_discrete, dec_lt}
use native.Mathlib.Omega.{arith}
use lib.ListN.{length, get_or-eq_default}
use borrow.Author.Tests.{eq-eqb, lt-ltb}
use Rattle.laws.proofs.Pigeonhole.{some_counted}
use Rattle.laws.proofs.Sums.{sum_same}
use Rattle.laws.proofs.Tabulate.{length-tabulate, get_d_tabulate}
use Rattle.halfedges.specs.declared.table.HalfedgeTable.{HalfedgeTable}
use Rattle.halfedges.specs.Cage.{marker, most_halfedges, most_depth, cell}
use Rattle.halfedges.specs.Refusals.{DONE, first}
use Rattle.halfedges.specs.Counts.{counts_at, Es, Vs}
use Rattle.halfedges.proofs.Questions.{limits_kept}
use Rattle.tables.specs.Tables.{Tables, counts_of}
use Rattle.tables.specs.Ruled.{Shaped, Ruled}
use Rattle.tables.specs.Check.{table_checks}
use Rattle.tables.proofs.Accepted.{whole_meaning}
use Rattle.tables.proofs.EdgeCount.{carried}
use Rattle.splitting.specs.NextLevel.{next, level}
use Rattle.creases.specs.Creases.{next_creases, creases_at}
use Rattle.creases.specs.Check.{creased_table_checks}
use Rattle.creases.proofs.Table.{crease_at, creases_long}
use Rattle.invariance.specs.Invariance.{Invariant}
use Rattle.invariance.proofs.Refinable.{H, VERT, EDGE}
use Rattle.invariance.proofs.Levels.{accepted, within_limits, vertices-stay}
use Rattle.points.specs.Internal.Creased.{crease_after, creases_after, listed_after, known_creases, KnownCreases}
use Rattle.points.specs.Internal.Relied.{crease_leaves}
use Rattle.points.proofs.Ends.{creases_counted}
use Rattle.sharpness.specs.Kept.{Creased, NoneOrTwo, creases_of, KeptCreases}
use Rattle.creases.proofs.Accepted.{plain_done}
use Rattle.sharpness.proofs.Checks.{checks_meaning, tables_meaning}
use Rattle.sharpness.proofs.Meaning.{meaning}
use Rattle.sharpness.proofs.Edges.{edges_counted}
use Rattle.sharpness.proofs.NextCreases.{Step, step}

none_or_two : (b : Bool) {n : ℕ} → n ≡ cond b 2 0 → NoneOrTwo n
none_or_two true e = inr e
none_or_two false e = inl e

module _ (c : Tables) (creases : List ℕ) (v depth : ℕ) (e : first (creased_table_checks c creases v depth) ≡ DONE) where
  abbrev t : HalfedgeTable
  t = counts_of c v

  -- the tables of level d, and its crease table
  abbrev at : ℕ → Tables
  at d = level t c d

  abbrev with : ℕ → List ℕ
  with d = creases_at t creases d

  done : first (table_checks c v depth) ≡ DONE
  done = plain_done c creases v depth e

  shaped : Shaped c
  shaped = ((whole_meaning c v depth).0 done).0

  ruled : Ruled c v
  ruled = ((whole_meaning c v depth).0 done).2

  few : H c ≤ most_halfedges
  few = (limits_kept (H c) v depth ((whole_meaning c v depth).0 done).1).0

  cage : Creased c creases
  cage = (meaning shaped ruled creases).0 ((tables_meaning c creases v depth).0 e).1

  kept : (d : ℕ) → d ≤ most_depth → Invariant t c d
  kept = accepted c v depth done

  small : (d : ℕ) → d ≤ most_depth → H (at d) ≤ marker
  small d l = omega (arith, (kept d l).halfedges, within_limits (H c) d few l)

  -- ---- from level to level

  last : (d : ℕ) → d < most_depth → Creased (at d) (with d) → Step (at d) (Vs t d) (with d) (at (suc d)) (with (suc d))
  unfolding level creases_at counts_at
  last d l p =
      let here = kept d (omega arith) in
      let counts : counts_at t d ≡ counts_of (at d) (Vs t d) = λ i. record { halfedges = here.quoted_halfedges i; edges = here.quoted_edges i; vertices = Vs t d } in
      subst (λ u. Step (at d) (Vs t d) (with d) (next u (at d)) (next_creases u.halfedges (with d))) (sym counts)
      (step (record { shaped = here.shaped; ruled = here.ruled; small = omega (arith, here.quoted_halfedges, (kept (suc d) l).quoted_halfedges, small (suc d) l) }) p)

  creased : (d : ℕ) → d ≤ most_depth → Creased (at d) (with d)
  unfolding level creases_at
  creased zero l = cage
  creased (suc d) l = (last d l (creased d (omega arith))).creased

  next_level_lem : (d : ℕ) → d < most_depth → Step (at d) (Vs t d) (with d) (at (suc d)) (with (suc d))
  next_level_lem d l = last d l (creased d (omega arith))

  -- ---- vertices at level d, k levels on

  cage_after : (d : ℕ) → d ≤ most_depth → (k n u : ℕ) → n ≡ d + k → u < v → creases_after k (at d) (with d) u ≡ creases_after n c creases u
  unfolding level creases_at counts_at
  cage_after zero l k n u i b = ap (λ (m : ℕ). creases_after m c creases u) (omega arith)
  cage_after (suc d) l k n u i b =
      (next_level_lem d l).old k u (omega (arith, vertices-stay t d)) ∙ cage_after d (omega arith) (suc k) n u (omega arith) b

  -- the vertex of h's edge of level j
  abbrev Stands : ℕ → ℕ → ℕ → ℕ → ℕ → Type 0
  Stands d k j n h =
      (Vs t j + EDGE (at j) h < Vs t d)
      × (creases_after k (at d) (with d) (Vs t j + EDGE (at j) h) ≡ cond (crease_after n (at j) (with j) h) 2 0)

  edge_after : (d : ℕ) → d ≤ most_depth → (k j n h : ℕ) → j < d → n + j ≡ d + k → h < H (at j) → Stands d k j n h
  unfolding counts_at
  edge_after zero l k j n h b i lh = absurd (omega arith)
  edge_after (suc d) l k j n h b i lh = by (ℕ_discrete j d) (λ m. edge_after d (omega arith) (suc k) j n h m (omega arith) lh)
    where
      new : (g : ℕ) → g < H (at d) → Stands (suc d) k d (suc k) g
      new g lg = let here = kept d (omega arith) in (omega (arith, here.ruled.numbered.below g lg, here.quoted_edges), (next_level_lem d l).new k g lg)

      by : Dec (j ≡ d) → (j < d → Stands d (suc k) j n h) → Stands (suc d) k j n h
      by (yes q) earlier = let same : n ≡ suc k = omega arith in rw (q, same) (new h (rw q at lh))
      by (no q) earlier = let (there, s) = earlier (omega (arith, q)) in (omega arith, (next_level_lem d l).old k (Vs t j + EDGE (at j) h) there ∙ s)

  -- an added vertex is that of an edge of a level below
  edge_of : (d : ℕ) → d ≤ most_depth → (u : ℕ) → v ≤ u → u < Vs t d → (j : ℕ) × (h : ℕ) × (j < d) × (h < H (at j)) × (Vs t j + EDGE (at j) h ≡ u)
  unfolding counts_at
  edge_of zero l u a b = absurd (omega arith)
  edge_of (suc d) l u a b = by (dec_lt u (Vs t d)) (edge_of d (omega arith) u a)
    where
      by :
          Dec (u < Vs t d) → (u < Vs t d → (j : ℕ) × (h : ℕ) × (j < d) × (h < H (at j)) × (Vs t j + EDGE (at j) h ≡ u))
          → (j : ℕ) × (h : ℕ) × (j < suc d) × (h < H (at j)) × (Vs t j + EDGE (at j) h ≡ u)
      by (yes m) earlier = let (j, h, lj, lh, i) = earlier m in (j, h, omega arith, lh, i)
      by (no m) earlier =
          let here = kept d (omega arith) in
          let (h, lh, i) = carried (at d).twin (small d (omega arith)) here.ruled.paired (at d).edge here.ruled.numbered (u - Vs t d) (omega (arith, m, here.quoted_edges)) in
          (d, h, omega arith, lh, omega (arith, m))

  -- ---- at level d

  module _ (d : ℕ) (l : d ≤ most_depth) where
    has : (u : ℕ) → creases_of t c creases d u ≡ creases_after 0 (at d) (with d) u
    unfolding creases_after
    has u = creases_counted (at d) (with d) u

    edge_has : (j h : ℕ) → j < d → h < H (at j) → creases_of t c creases d (Vs t j + EDGE (at j) h) ≡ cond (crease_after (d - j) (at j) (with j) h) 2 0
    edge_has j h b lh = has _ ∙ (edge_after d l 0 j (d - j) h b (omega arith) lh).1

    added_has : (u : ℕ) → v ≤ u → u < Vs t d → NoneOrTwo (creases_of t c creases d u)
    added_has u a b = let (j, h, lj, lh, i) = edge_of d l u a b in rw (← i) (none_or_two (crease_after (d - j) (at j) (with j) h) (edge_has j h lj lh))

    pub accepted_creases : KeptCreases t c creases d
    unfolding counts_at
    accepted_creases =
        record {
          passes = (checks_meaning (at d) (with d) (Vs t d)).1 ((kept d l).passes, (meaning (kept d l).shaped (kept d l).ruled (with d)).1 (creased d l));
          creased = creased d l;
          quoted = creases_long t creases cage.long d;
          crease_room = sum_same (suc d) (Es t) (λ k. length (with k)) (λ k b. sym (creases_long t creases cage.long k));
          numbers = crease_at t creases d;
          counted = λ u. has u ∙ edges_counted (kept d l).shaped (kept d l).ruled (small d l) 0 (with d) u;
          cage_creases = λ u b. has u ∙ cage_after d l 0 d u (omega arith) b ∙ edges_counted shaped ruled (omega (arith, few)) d creases u;
          edge_creases = edge_has;
          added_creases = added_has;
        }

    pub known_creases_lem : KnownCreases (listed_after d c creases v) (at d) (with d)
    known_creases_lem = record { known = λ h lh n. by h lh n (dec_lt (VERT (at d) h) v); border_none = (creased d l).border_none }
      where
        listed : List ℕ
        listed = listed_after d c creases v

        by : (h : ℕ) → h < length (at d).vert → 0 < cell (with d) (EDGE (at d) h) → Dec (VERT (at d) h < v) → creases_of t c creases d (VERT (at d) h) ≡ known_creases listed (VERT (at d) h)
        by h lh n (yes b) = has _ ∙ cage_after d l 0 d _ (omega arith) b ∙ sym (get_d_tabulate v (creases_after d c creases) _ 2 b)
        by h lh n (no b) = two (added_has (VERT (at d) h) (omega (arith, b)) ((kept d l).ruled.placed.below h (rw (kept d l).shaped.vert_long at lh)))
          where
            -- h is one of its creases
            some : 0 < creases_of t c creases d (VERT (at d) h)
            some =
                omega (
                  arith,
                  creases_counted (at d) (with d) (VERT (at d) h),
                  some_counted (length (at d).vert) (crease_leaves (at d) (with d) (VERT (at d) h)) h lh (rw (lt-ltb 0 (cell (with d) (EDGE (at d) h)) n) (eq-eqb (VERT (at d) h) (VERT (at d) h) refl)),
                )

            two : NoneOrTwo (creases_of t c creases d (VERT (at d) h)) → creases_of t c creases d (VERT (at d) h) ≡ known_creases listed (VERT (at d) h)
            two (inl z) = absurd (omega (arith, some))
            two (inr s) = s ∙ sym (get_or-eq_default listed 2 (rw (length-tabulate v (creases_after d c creases)) (omega (arith, b))))
