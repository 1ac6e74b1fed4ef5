-- Rule 7 where it is broken at a vertex: the vertex has a corner (`corner_below`), what is named are two corners that are not joined
-- (`apart_below`), and that holds of the cage in plain words (`fan_broken`). Assumes nothing.
use Prim.Native.Nat.{ℕ, ◌<◌}
use mathlib.Core.Path.{◌≡◌, sym, ◌∙◌}
use mathlib.Core.Logic.{◌↔◌, ◌≢◌}
use mathlib.Core.Bool.{true, false, cond, not, ◌&&◌, true≢false}
use mathlib.Core.List.{List}
use native.Mathlib.Omega.{arith}
use lib.Dec.{eqb}
use lib.ListN.{length}
use borrow.Author.Tests.{eqb-true, eqb-false, eq-eqb, ne_eqb, not-true, not-false}
use Rattle.laws.specs.Below.{any}
use Rattle.laws.proofs.Tests.{and_true, by-test, any_true, true_any}
use Rattle.laws.proofs.Lowest.{below_lowest, lowest_of_some}
use Rattle.halfedges.specs.Cage.{cell}
use Rattle.tables.specs.Tables.{leaves}
use Rattle.tables.specs.Fans.{Joined, back, on, joined, not_one_fan}
use Rattle.tables.specs.Internal.Walks.{Walkable, Corner}
use Rattle.tables.proofs.Walks.{joined_iff}
use Rattle.clauses.specs.Clauses.{lowest_corner, apart, lowest_apart, fan_clause}
use Rattle.clauses.specs.Explained.{FanBroken}

-- how the code tells a corner that is apart: by its vertex, and by its mark
module _ (twin vert : List ℕ) (u g h : ℕ) where
  pub apart_other : cell vert h ≢ u → false ≡ apart twin vert u g h
  unfolding apart
  apart_other n = rw (ne_eqb (cell vert h) u n)

  pub apart-mark : {m : ℕ} → cell vert h ≡ u → m ≡ cond (joined twin g h) 1 0 → eqb m 0 ≡ apart twin vert u g h
  unfolding apart
  apart-mark e q = rw (eq-eqb (cell vert h) u e, q) (by-test (joined twin g h) (λ t. rw t) (λ f. rw f))

-- two corners at u that are not joined
record Two (twin vert : List ℕ) (u a b : ℕ) : Type 0 where
  one : Corner vert u a
  other : Corner vert u b
  not_joined : joined twin a b ≡ false

module _ (twin vert : List ℕ) (u : ℕ) (e : not_one_fan twin vert u ≡ true) where
  two_corners : (a : ℕ) × (b : ℕ) × Two twin vert u a b
  unfolding not_one_fan
  two_corners =
      let a = any_true _ (length vert) e in
      let b = any_true _ (length vert) a.2 in
      let m = and_true (leaves vert u a.0 && leaves vert u b.0) _ b.2 in
      let l = and_true (leaves vert u a.0) _ m.0 in (
        a.0,
        b.0,
        record {
          one = record { below = a.1; leaves = eqb-true _ _ l.0 };
          other = record { below = b.1; leaves = eqb-true _ _ l.1 };
          not_joined = not-true _ m.1;
        },
      )

  has_corner : any (length vert) (leaves vert u) ≡ true
  has_corner = let t = two_corners.2 in true_any (leaves vert u) (length vert) _ t.one.below (eq-eqb _ _ t.one.leaves)

  pub corner_below : lowest_corner vert u < length vert
  corner_below = (lowest_of_some (length vert) (leaves vert u) has_corner).0

  module _ (w : Walkable twin) (long : length vert ≡ length twin) where
    tested : (g h : ℕ) → g < length vert → h < length vert → (joined twin g h ≡ true) ↔ Joined twin g h
    tested g h lg lh = joined_iff twin w g h (rw long at lg) (rw long at lh)

    -- of two corners that are not joined, one is apart from any
    one_apart : any (length vert) (apart twin vert u (lowest_corner vert u)) ≡ true
    unfolding apart
    one_apart = by-test (joined twin g a) (λ ja. by-test (joined twin g b) (λ jb. absurd (both ja jb)) (is b t.other)) (is a t.one)
      where
        g : ℕ
        g = lowest_corner vert u

        a : ℕ
        a = two_corners.0

        b : ℕ
        b = two_corners.1

        t : Two twin vert u a b
        t = two_corners.2

        both : joined twin g a ≡ true → joined twin g b ≡ true → ⊥
        both ja jb =
            true≢false (sym ((tested a b t.one.below t.other.below).1
            (on (back ((tested g a corner_below t.one.below).0 ja)) ((tested g b corner_below t.other.below).0 jb))) ∙ t.not_joined)

        is : (h : ℕ) → Corner vert u h → joined twin g h ≡ false → any (length vert) (apart twin vert u g) ≡ true
        is h k n = true_any (apart twin vert u g) (length vert) h k.below (rw (eq-eqb _ _ k.leaves, n))

    pub apart_below : lowest_apart twin vert u (lowest_corner vert u) < length vert
    apart_below = (lowest_of_some (length vert) (apart twin vert u (lowest_corner vert u)) one_apart).0

    is_apart : (leaves vert u (lowest_apart twin vert u (lowest_corner vert u)) ≡ true) × (not (joined twin (lowest_corner vert u) (lowest_apart twin vert u (lowest_corner vert u))) ≡ true)
    unfolding apart
    is_apart = and_true _ _ (lowest_of_some (length vert) (apart twin vert u (lowest_corner vert u)) one_apart).1

    joined_lower : (k : ℕ) → k < lowest_apart twin vert u (lowest_corner vert u) → cell vert k ≡ u → Joined twin (lowest_corner vert u) k
    unfolding apart
    joined_lower k l q =
        let f = below_lowest (length vert) (apart twin vert u (lowest_corner vert u)) k l in
        (tested (lowest_corner vert u) k corner_below (omega (arith, apart_below))).0 (not-false _ (rw (eq-eqb (cell vert k) u q) at f))

    pub fan_broken : FanBroken twin vert u (fan_clause twin vert u)
    unfolding fan_clause
    fan_broken =
        FanBroken.apart _ _ corner_below
        (eqb-true _ _ (lowest_of_some (length vert) (leaves vert u) has_corner).1)
        (λ k l. eqb-false _ _ (below_lowest (length vert) (leaves vert u) k l))
        apart_below
        (eqb-true _ _ is_apart.0)
        (λ j. true≢false (sym ((tested _ _ corner_below apart_below).1 j) ∙ not-true _ is_apart.1))
        joined_lower
