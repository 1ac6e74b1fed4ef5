-- A walk round a vertex, along the links or against them, and how many halfedges it meets. Assumes nothing.
--     joined_keeps               what links keep, all that is joined has alike
--     joined_iff                 the test `joined` is the plain `Joined`
--     start                      the walk from g begins with g
--     along_on, against_on       it goes on to a halfedge that it has not met
--     last_below, few_met        it stays in the table, and so meets at most H
--     along_end, against_round   where it can go no further, or is round, it has met all that is joined with g
--     against_border             where it ends, the fan has the same size as at g
use Prim.Native.Nat.{ℕ, ◌+◌, ◌≤◌, ◌<◌}
use mathlib.Core.Path.{◌≡◌, refl, sym, ap, subst, ◌∙◌}
use mathlib.Core.Logic.Iff
use mathlib.Core.Logic.{◌≢◌, ◌⊎◌, inl, inr, ⊎_elim, ◌↔◌}
use mathlib.Core.Bool.{Bool, true, false, cond, ◌||◌, true≢false}
use mathlib.Core.List.{List}
use native.Mathlib.Decide.{ℕ_discrete}
use native.Mathlib.Omega.{arith}
use lib.Dec.{eqb}
use lib.ListN.{length}
use borrow.Author.Tests.{eq-eqb, ne_eqb, eqb-true}
use Rattle.laws.specs.Below.{count}
use Rattle.laws.proofs.Tests.{by-test, or_true, same_tests}
use Rattle.laws.proofs.Counts.{count_one, count_at_most}
use Rattle.laws.proofs.Sums.{sum_same}
use Rattle.laws.proofs.Subsets.{count_more}
use Rattle.halfedges.specs.Cage.{NEXT, PREV, marker, cell}
use Rattle.tables.specs.Fans.{link, Joined, itself, linked, back, on, joined}
use Rattle.tables.specs.Internal.Walks.{Walkable, fan_size}
use Rattle.halfedges.proofs.Triangle.{next_prev, prev_next, next_below, prev_below}
use Rattle.tables.proofs.Joined.{joined_test, test_joined}

pub joined_keeps : (twin : List ℕ) (P : ℕ → Type 0) → ((h : ℕ) → h < length twin → link twin h ≢ marker → P h ↔ P (link twin h)) → {a b : ℕ} → Joined twin a b → P a ↔ P b
joined_keeps twin P f (itself h) = Iff.rfl
joined_keeps twin P f (linked h l e) = f h l e
joined_keeps twin P f (back j) = Iff.symm (joined_keeps twin P f j)
joined_keeps twin P f (on j k) = Iff.trans (joined_keeps twin P f j) (joined_keeps twin P f k)

-- b is the halfedge that a is linked with
record Linked (twin : List ℕ) (a b : ℕ) : Type 0 where
  from_below : a < length twin
  to_below : b < length twin
  ahead : link twin a ≡ b
  behind : cell twin b ≡ PREV a

-- along the links, or against them
pub data Way : Type 0 where
  along : Way
  against : Way

-- one step from a leads to b
data Step (twin : List ℕ) : Way → ℕ → ℕ → Type 0 where
  with_link : {a b : ℕ} → Linked twin a b → Step twin along a b
  counter_link : {a b : ℕ} → Linked twin b a → Step twin against a b

-- the walk from g has come to x and met m halfedges: what a step leads to from all but x, and what leads to all but g
pub record Walked (twin : List ℕ) (way : Way) (g m x : ℕ) : Type 0 where
  met : ℕ → Bool
  many : count (length twin) met ≡ m
  first : met g ≡ true
  last : met x ≡ true
  each : (h : ℕ) → met h ≡ true → (h < length twin) × Joined twin g h
  after : (a b : ℕ) → Step twin way a b → met a ≡ true → a ≢ x → met b ≡ true
  before : (a b : ℕ) → Step twin way a b → met b ≡ true → b ≢ g → (met a ≡ true) × (a ≢ x)

module _ (twin : List ℕ) (w : Walkable twin) where
  pub joined_iff : (g h : ℕ) → g < length twin → h < length twin → (joined twin g h ≡ true) ↔ Joined twin g h
  joined_iff g h lg lh = (test_joined twin w.whole w.paired g h lg lh, joined_test twin w.whole w.paired g h lg lh)

  -- a test that just the halfedges joined with g pass counts its fan
  size_by : (g : ℕ) → g < length twin → (p : ℕ → Bool) → ((h : ℕ) → h < length twin → (p h ≡ true) ↔ Joined twin g h) → fan_size twin g ≡ count (length twin) p
  unfolding fan_size
  size_by g lg p f = sum_same (length twin) _ _ (λ h l. ap (λ b. cond b 1 0) (same_tests (joined twin g h) (p h) (Iff.trans (joined_iff g h lg l) (Iff.symm (f h l)))))

  -- ---- steps

  link_on : (h : ℕ) → h < length twin → link twin h ≢ marker → Linked twin h (link twin h)
  link_on h l e =
      let b = prev_below w.whole l in
      record { from_below = l; to_below = w.paired.below (PREV h) b e; ahead = refl; behind = w.paired.back (PREV h) b e }

  link_back : (h : ℕ) → h < length twin → cell twin h ≢ marker → Linked twin (NEXT (cell twin h)) h
  link_back h l e =
      record {
        from_below = next_below w.whole (w.paired.below h l e);
        to_below = l;
        ahead = ap (cell twin) (prev_next (cell twin h)) ∙ w.paired.back h l e;
        behind = sym (prev_next (cell twin h));
      }

  linked_joined : {a b : ℕ} → Linked twin a b → Joined twin a b
  linked_joined {a} {b} l = subst (Joined twin a) l.ahead (linked a l.from_below (λ m. omega (arith, m, l.ahead, l.to_below, w.few)))

  one_ahead : {a b c : ℕ} → Linked twin a b → Linked twin a c → b ≡ c
  one_ahead l m = sym l.ahead ∙ m.ahead

  one_behind : {a b c : ℕ} → Linked twin a c → Linked twin b c → a ≡ b
  one_behind {a} {b} l m = sym (next_prev a) ∙ ap NEXT (sym l.behind ∙ m.behind) ∙ next_prev b

  step-joined : {way : Way} {a b : ℕ} → Step twin way a b → Joined twin a b
  step-joined (with_link l) = linked_joined l
  step-joined (counter_link l) = back (linked_joined l)

  step_below : {way : Way} {a b : ℕ} → Step twin way a b → b < length twin
  step_below (with_link l) = l.to_below
  step_below (counter_link l) = l.from_below

  link-step : (way : Way) {a b : ℕ} → Linked twin a b → Step twin way a b ⊎ Step twin way b a
  link-step along l = inl (with_link l)
  link-step against l = inr (counter_link l)

  one_to : {way : Way} {a b c : ℕ} → Step twin way a b → Step twin way a c → b ≡ c
  one_to (with_link l) (with_link m) = one_ahead l m
  one_to (counter_link l) (counter_link m) = one_behind l m

  one_from : {way : Way} {a b c : ℕ} → Step twin way a c → Step twin way b c → a ≡ b
  one_from (with_link l) (with_link m) = one_behind l m
  one_from (counter_link l) (counter_link m) = one_ahead l m

  -- ---- walks, either way

  pub start : (way : Way) (g : ℕ) → g < length twin → Walked twin way g 1 g
  start way g l =
      record {
        met = λ h. eqb h g;
        many = count_one (length twin) g l;
        first = eq-eqb g g refl;
        last = eq-eqb g g refl;
        each = λ h e. rw (eqb-true h g e) (l, itself g);
        after = λ a b s e n. absurd (n (eqb-true a g e));
        before = λ a b s e n. absurd (n (eqb-true b g e));
      }

  module _ {way : Way} {g m x : ℕ} (r : Walked twin way g m x) where
    pub last_below : x < length twin
    last_below = (r.each x r.last).0

    pub few_met : m ≤ length twin
    few_met = rw (← r.many) (count_at_most (length twin) r.met)

    further : {z : ℕ} → Step twin way x z → z ≢ g → Walked twin way g (m + 1) z
    further {z} s ne =
        record {
          met = λ h. eqb h z || r.met h;
          many = count_more (length twin) z r.met (step_below s) new ∙ ap (λ k. k + 1) r.many;
          first = still g r.first;
          last = rw (eq-eqb z z refl);
          each = λ h e. each h e (ℕ_discrete h z);
          after = λ a b t e n. after a b t (old a e n) (ℕ_discrete a x);
          before = λ a b t e n. before a b t e n (ℕ_discrete b z);
        }
      where
        -- had the walk met z, it would have met x before its end
        new : r.met z ≡ false
        new = by-test (r.met z) (λ e. absurd ((r.before x z s e ne).1 refl)) (λ e. e)

        still : (h : ℕ) → r.met h ≡ true → (eqb h z || r.met h) ≡ true
        still h e = rw e (or_true (eqb h z))

        old : (h : ℕ) → (eqb h z || r.met h) ≡ true → h ≢ z → r.met h ≡ true
        old h e n = rw (ne_eqb h z n) at e

        each : (h : ℕ) → (eqb h z || r.met h) ≡ true → Dec (h ≡ z) → (h < length twin) × Joined twin g h
        each h e (yes q) = rw q (step_below s, on (r.each x r.last).1 (step-joined s))
        each h e (no q) = r.each h (old h e q)

        after : (a b : ℕ) → Step twin way a b → r.met a ≡ true → Dec (a ≡ x) → (eqb b z || r.met b) ≡ true
        after a b t e (yes q) = rw (eq-eqb b z (one_to (subst (λ y. Step twin way y b) q t) s))
        after a b t e (no q) = still b (r.after a b t e q)

        -- what was met is not z
        both : (a : ℕ) → r.met a ≡ true → ((eqb a z || r.met a) ≡ true) × (a ≢ z)
        both a e = (still a e, λ q. true≢false (sym e ∙ ap r.met q ∙ new))

        before : (a b : ℕ) → Step twin way a b → (eqb b z || r.met b) ≡ true → b ≢ g → Dec (b ≡ z) → ((eqb a z || r.met a) ≡ true) × (a ≢ z)
        before a b t e n (yes q) = both a (rw (one_from (subst (λ y. Step twin way a y) q t) s) r.last)
        before a b t e n (no q) = both a (r.before a b t (old b e q) n).0

    -- the walk is whole: from x no step leads but to g, and none leads to g but from x
    module _ (to_start : (b : ℕ) → Step twin way x b → b ≡ g) (from_end : (a : ℕ) → Step twin way a g → a ≡ x) where
      step_keeps : {a b : ℕ} → Step twin way a b → (r.met a ≡ true) ↔ (r.met b ≡ true)
      step_keeps {a} {b} s = (forward (ℕ_discrete a x), backward (ℕ_discrete b g))
        where
          forward : Dec (a ≡ x) → r.met a ≡ true → r.met b ≡ true
          forward (yes q) e = rw (to_start b (subst (λ y. Step twin way y b) q s)) r.first
          forward (no q) e = r.after a b s e q

          backward : Dec (b ≡ g) → r.met b ≡ true → r.met a ≡ true
          backward (yes q) e = rw (from_end a (subst (λ y. Step twin way a y) q s)) r.last
          backward (no q) e = (r.before a b s e q).0

      size_met : m ≡ fan_size twin g
      size_met = sym (size_by g (r.each g r.first).0 r.met (λ h l. (λ e. (r.each h e).1, λ j. (all j).0 r.first)) ∙ r.many)
        where
          all : {a b : ℕ} → Joined twin a b → (r.met a ≡ true) ↔ (r.met b ≡ true)
          all = joined_keeps twin (λ h. r.met h ≡ true) (λ h l e. ⊎_elim step_keeps (λ s. Iff.symm (step_keeps s)) (link-step way (link_on h l e)))

  -- ---- against the links, where t is the last one's twin

  module _ {g m x : ℕ} (r : Walked twin against g m x) where
    module _ {t : ℕ} (q : t ≡ cell twin x) (n : t ≢ marker) where
      step_back : Step twin against x (NEXT t)
      step_back = rw q (counter_link (link_back x (last_below r) (λ e. n (q ∙ e))))

      pub against_on : NEXT t ≢ g → Walked twin against g (m + 1) (NEXT t)
      against_on e = further r step_back e

      pub against_round : NEXT t ≡ g → m ≡ fan_size twin g
      against_round e = let s = rw e at step_back in size_met r (λ b k. one_to k s) (λ a k. one_from k s)

    pub against_border : fan_size twin x ≡ fan_size twin g
    unfolding fan_size
    against_border =
        let j = (r.each x r.last).1 in
        size_by x (last_below r) (joined twin g) (λ h l. Iff.trans (joined_iff g h (r.each g r.first).0 l) (λ k. on (back j) k, λ k. on j k))

  -- ---- along the links from a halfedge without twin, where t is the last one's link

  module _ {g m x : ℕ} (alone : cell twin g ≡ marker) (r : Walked twin along g m x) {t : ℕ} (q : t ≡ link twin x) where
    none_to : {a : ℕ} → Step twin along a g → ⊥
    none_to (with_link l) = omega (arith, alone, l.behind, prev_below w.whole l.from_below, w.few)

    pub along_on : t ≢ marker → Walked twin along g (m + 1) t
    along_on n =
        let s : Step twin along x t = rw q (with_link (link_on x (last_below r) (λ e. n (q ∙ e)))) in
        further r s (λ e. none_to (rw e at s))

    pub along_end : t ≡ marker → m ≡ fan_size twin g
    along_end e = size_met r (λ b s. absurd (none_from s)) (λ a s. absurd (none_to s))
      where
        none_from : {b : ℕ} → Step twin along x b → ⊥
        none_from (with_link l) = omega (arith, e, q, l.ahead, l.to_below, w.few)
