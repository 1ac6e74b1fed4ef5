-- Rule 7 by counting: the corners at a vertex are one fan where the fan of any of them has as many halfedges, and only there
-- (`fan_counted`). One corner of each vertex is kept as the table is gone through (`kept_more`, `kept_corner`). Assumes nothing.
use Prim.Native.Nat.{ℕ, ◌+◌, ◌<◌}
use mathlib.Core.Path.{◌≡◌, refl, sym, ap, subst, ◌∙◌}
use mathlib.Core.Logic.{◌↔◌}
use mathlib.Core.Bool.{Bool, true, not, ◌&&◌, true≢false}
use mathlib.Core.List.{List}
use native.Mathlib.Decide.{ℕ_discrete}
use native.Mathlib.Omega.{arith}
use lib.Dec.{eqb}
use lib.ListN.{length, get_or, set}
use lib.Seq.{get_or-set_same, get_or-set_other}
use borrow.Author.Tests.{eq-eqb, not-true}
use Rattle.laws.specs.Below.{any, count}
use Rattle.laws.proofs.Tests.{by-test, same_tests, any_true, true_any}
use Rattle.laws.proofs.Pigeonhole.{and_both}
use Rattle.laws.proofs.Subsets.{count-part}
use Rattle.halfedges.specs.Cage.{PREV, cell}
use Rattle.tables.specs.Tables.{leaves}
use Rattle.tables.specs.Fans.{Joined, back, on, joined, not_one_fan}
use Rattle.tables.specs.Ruled.{Placed, Used}
use Rattle.tables.specs.Internal.Walks.{Walkable, fan_size, Corner, Kept}
use Rattle.halfedges.proofs.Triangle.{next_prev, prev_below}
use Rattle.tables.proofs.Walks.{joined_keeps, joined_iff}

module _ (twin vert : List ℕ) (v : ℕ) (w : Walkable twin) (long : length vert ≡ length twin) (p : Placed twin vert v) where
  -- a link stays at its vertex
  same_vertex : (u : ℕ) {a b : ℕ} → Joined twin a b → (cell vert a ≡ u) ↔ (cell vert b ≡ u)
  same_vertex u =
      joined_keeps twin (λ h. cell vert h ≡ u)
      (λ h l e. let q = p.twin_ends (PREV h) (prev_below w.whole l) e ∙ ap (cell vert) (next_prev h) in (λ x. q ∙ x, λ x. sym q ∙ x))

  tested : (g h : ℕ) → g < length vert → h < length vert → (joined twin g h ≡ true) ↔ Joined twin g h
  tested g h lg lh = joined_iff twin w g h (rw long at lg) (rw long at lh)

  module _ (u g : ℕ) (c : Corner vert u g) where
    -- a corner at u that is not joined with g
    apart : ℕ → Bool
    apart h = leaves vert u h && not (joined twin g h)

    -- of two corners that are not joined, one is apart
    one_apart : not_one_fan twin vert u ≡ true → any (length vert) apart ≡ true
    unfolding not_one_fan apart
    one_apart e =
        let a = any_true _ (length vert) e in
        let b = any_true _ (length vert) a.2 in
        let m = and_both (leaves vert u a.0 && leaves vert u b.0) _ b.2 in
        let l = and_both (leaves vert u a.0) _ m.0 in
        by-test (joined twin g a.0)
        (λ ja. by-test (joined twin g b.0)
        (λ jb. absurd (true≢false (sym ((tested a.0 b.0 a.1 b.1).1 (on (back ((tested g a.0 c.below a.1).0 ja)) ((tested g b.0 c.below b.1).0 jb))) ∙ not-true _ m.1)))
        (λ nb. true_any apart (length vert) b.0 b.1 (rw (l.1, nb))))
        (λ na. true_any apart (length vert) a.0 a.1 (rw (l.0, na)))

    apart_one : any (length vert) apart ≡ true → not_one_fan twin vert u ≡ true
    unfolding not_one_fan apart
    apart_one e =
        let h = any_true apart (length vert) e in
        true_any _ (length vert) g c.below (true_any _ (length vert) h.0 h.1 (rw (eq-eqb _ _ c.leaves) h.2))

    pub fan_counted : not_one_fan twin vert u ≡ not (eqb (fan_size twin g) (count (length vert) (leaves vert u)))
    unfolding apart fan_size
    fan_counted =
        same_tests (not_one_fan twin vert u) (any (length vert) apart) (one_apart, apart_one)
        ∙ count-part (length vert) (leaves vert u) (joined twin g) (λ h l e. eq-eqb _ _ ((same_vertex u ((tested g h c.below l).0 e)).0 c.leaves))
        ∙ ap (λ n. not (eqb (count n (joined twin g)) (count (length vert) (leaves vert u)))) long

-- ---- one corner of each vertex

pub kept_more : (vert kept : List ℕ) (n : ℕ) → n < length vert → cell vert n < length kept → Kept vert n kept → Kept vert (n + 1) (set kept (cell vert n) n)
kept_more vert kept n l b r = record { each = λ h lh. by h lh (ℕ_discrete (cell vert h) (cell vert n)) }
  where
    by : (h : ℕ) → h < n + 1 → Dec (cell vert h ≡ cell vert n) → Corner vert (cell vert h) (get_or (set kept (cell vert n) n) (cell vert h) 0)
    by h lh (yes q) = rw (q, get_or-set_same kept (cell vert n) n 0 b) record { below = l; leaves = refl }
    by h lh (no q) = rw (get_or-set_other kept (cell vert n) (cell vert h) n 0 q) (r.each h (lower (ℕ_discrete h n)))
      where
        lower : Dec (h ≡ n) → h < n
        lower (yes e) = absurd (q (ap (cell vert) e))
        lower (no e) = omega (arith, e)

pub kept_corner : (vert kept : List ℕ) (v : ℕ) → Kept vert (length vert) kept → Used vert v → (u : ℕ) → u < v → Corner vert u (get_or kept u 0)
kept_corner vert kept v r s u l = let c = s.corner u l in subst (λ x. Corner vert x (get_or kept x 0)) c.2 (r.each c.0 c.1)
