-- Demand 3 of the tables: `invariant`, by induction on the depth, wherever no halfedge number reaches the marker; and
-- `accepted`, of every cage that the check accepts, at every depth that is allowed; a vertex on a border stays on one,
-- `stays_on_border`. Assumes nothing.
use Prim.Native.Nat.{ℕ, zero, suc, ◌+◌, ◌*◌, ◌^◌, ◌≤◌, ◌<◌}
use mathlib.Core.Path.{◌≡◌, refl, sym, ap, ap₂, subst, ◌∙◌}
use native.Mathlib.Decide.{dec_lt}
use native.Mathlib.Nat.{pow-suc, mul-le-mul, pow-le-pow_right, mul_assoc, mul_comm}
use native.Mathlib.Omega.{arith}
use lib.Dec.{ltb}
use borrow.Author.Tests.{ltb-false}
use Rattle.laws.proofs.Tests.{or_false₃}
use Rattle.halfedges.specs.declared.table.HalfedgeTable.{HalfedgeTable}
use Rattle.halfedges.specs.Cage.{marker, most_halfedges, most_vertices, most_depth, B}
use Rattle.halfedges.specs.Refusals.{DONE, first}
use Rattle.halfedges.specs.Counts.{counts_at, Hs, Vs, above_limit}
use Rattle.tables.specs.Tables.{Tables, counts_of}
use Rattle.tables.specs.Ruled.{Shaped, Ruled}
use Rattle.splitting.specs.NextLevel.{next, level}
use Rattle.tables.specs.Check.{table_checks}
use Rattle.tables.proofs.Accepted.{rules_done, whole_meaning}
use Rattle.invariance.specs.Invariance.{vertices_in, OnBorder, Added, Invariant}
use Rattle.invariance.proofs.Refinable.{H}
use Rattle.invariance.proofs.VertexCount.{vertices-counted}
use Rattle.invariance.proofs.NextLevel.{Step, step}

pub vertices-stay : (t : HalfedgeTable) (d : ℕ) → Vs t 0 ≤ Vs t d
unfolding counts_at
vertices-stay t zero = omega arith
vertices-stay t (suc d) = omega (arith, vertices-stay t d)

-- one factor more
power_more : (k d x : ℕ) → k ^ suc d * x ≡ k * (k ^ d * x)
power_more k d x = rw (pow-suc k d, mul_comm (k ^ d) k) (mul_assoc k (k ^ d) x)

module _ (t : HalfedgeTable) (c : Tables) (d : ℕ) (p : Invariant t c d) (small : 4 * H (level t c d) ≤ marker) where
  counts : counts_at t d ≡ counts_of (level t c d) (Vs t d)
  counts = λ i. record { halfedges = p.quoted_halfedges i; edges = p.quoted_edges i; vertices = Vs t d }

  last : Step (level t c d) (Vs t d) (level t c (suc d)) (Vs t (suc d))
  unfolding level counts_at
  last =
      subst (λ u. Step (level t c d) (Vs t d) (next u (level t c d)) (u.vertices + u.edges)) (sym counts)
      (step (record { shaped = p.shaped; ruled = p.ruled; small = small }))

  still_added : (u : ℕ) → u < Vs t d → Added (level t c d) u → Added (level t c (suc d)) u
  still_added u l a =
      record {
        inside = λ n. last.old_corners u l ∙ a.inside (λ b. n (last.still_on_border u b));
        on_border = λ b. last.old_corners u l ∙ a.on_border (last.was_on_border u l b);
      }

  quoted_halfedges : Hs t (suc d) ≡ H (level t c (suc d))
  unfolding counts_at
  quoted_halfedges = omega (arith, last.halfedges, p.quoted_halfedges)

  quoted_vertices : Vs t (suc d) ≡ vertices_in (level t c (suc d)).vert
  quoted_vertices = sym (vertices-counted last.shaped last.ruled)

  deeper : Invariant t c (suc d)
  unfolding counts_at
  deeper =
      record {
        passes = rules_done (level t c (suc d)) (Vs t (suc d)) last.shaped last.ruled;
        shaped = last.shaped;
        ruled = last.ruled;
        halfedges = omega (arith, last.halfedges, p.halfedges, power_more 4 d (H c));
        border_edges = omega (arith, last.borders, p.border_edges, power_more 2 d (B c.twin));
        characteristic = omega (arith, p.characteristic, p.quoted_vertices, quoted_vertices, last.vertices, last.edges, last.halfedges, p.shaped.whole);
        quoted_halfedges = quoted_halfedges;
        quoted_edges = omega (arith, last.edges, p.quoted_edges, p.quoted_halfedges);
        quoted_vertices = quoted_vertices;
        cage_corners = λ u l. last.old_corners u (omega (arith, vertices-stay t d)) ∙ p.cage_corners u l;
        added_corners = λ u a b. by u a b (dec_lt u (Vs t d));
        halfedge_room = ap₂ ◌+◌ p.halfedge_room quoted_halfedges;
        vertex_room = ap₂ ◌+◌ p.vertex_room quoted_vertices;
      }
    where
      by : (u : ℕ) → Vs t 0 ≤ u → u < Vs t (suc d) → Dec (u < Vs t d) → Added (level t c (suc d)) u
      by u a b (yes l) = still_added u l (p.added_corners u a l)
      by u a b (no l) = last.new_vertex u (omega (arith, l)) b

module _ (c : Tables) (v : ℕ) (s : Shaped c) (r : Ruled c v) where
  cage : Invariant (counts_of c v) c 0
  unfolding level counts_at
  cage =
      record {
        passes = rules_done c v s r;
        shaped = s;
        ruled = r;
        halfedges = omega arith;
        border_edges = omega arith;
        characteristic = refl;
        quoted_halfedges = refl;
        quoted_edges = refl;
        quoted_vertices = sym (vertices-counted s r);
        cage_corners = λ u l. refl;
        added_corners = λ u a b. absurd (omega arith);
        halfedge_room = refl;
        vertex_room = ap (λ x. 0 + x) (sym (vertices-counted s r));
      }

  pub invariant : (d : ℕ) → 4 ^ d * H c ≤ marker → Invariant (counts_of c v) c d
  invariant zero b = cage
  invariant (suc d) b =
      let more = power_more 4 d (H c) in
      let p = invariant d (omega arith) in
      deeper (counts_of c v) c d p (omega (arith, p.halfedges))

  -- what lies on a border stays there
  pub stays_on_border : (d : ℕ) → 4 ^ d * H c ≤ marker → (u : ℕ) → OnBorder c u → OnBorder (level (counts_of c v) c d) u
  unfolding level
  stays_on_border zero b u on = on
  stays_on_border (suc d) b u on =
      let more = power_more 4 d (H c) in
      let p = invariant d (omega arith) in
      (last (counts_of c v) c d p (omega (arith, p.halfedges))).still_on_border u (stays_on_border d (omega arith) u on)

-- ---- accepted cages

-- within the limits no halfedge number reaches the marker
pub within_limits : (n d : ℕ) → n ≤ most_halfedges → d ≤ most_depth → 4 ^ d * n ≤ marker
within_limits n d a b = let g : 4 ^ d * n ≤ 4 ^ 6 * 3072 = mul-le-mul (pow-le-pow_right (let z : 0 < 4 = omega arith in z) b) a in omega arith

pub accepted : (c : Tables) (v depth : ℕ) → first (table_checks c v depth) ≡ DONE → (d : ℕ) → d ≤ most_depth → Invariant (counts_of c v) c d
unfolding above_limit
accepted c v depth e d l =
    let p = (whole_meaning c v depth).0 e in
    let f = or_false₃ (ltb most_halfedges (H c)) (ltb most_vertices v) (ltb most_depth depth) p.1 in
    invariant c v p.0 p.2 d (within_limits (H c) d (ltb-false most_halfedges (H c) f.0) l)
