-- A walk that marks what it meets (`going_start`, `going_on`, `going_end`, `going_round`, `going_out`), and that two walks from a corner,
-- along the links and against them, mark just what is joined with it (`marked_joined`). Assumes nothing.
use Prim.Native.Nat.{ℕ, zero, suc, ◌+◌, ◌≤◌, ◌<◌}
use mathlib.Core.Path.{◌≡◌, refl, sym, ap, subst, ◌∙◌}
use mathlib.Core.Logic.{◌≢◌, ◌⊎◌, inl, inr, ⊎_elim}
use mathlib.Core.Bool.{Bool, true, false, cond, not, ◌&&◌, ◌||◌, true≢false}
use mathlib.Core.List.{List}
use native.Mathlib.Decide.{ℕ_discrete}
use native.Mathlib.Numerals.{add-one}
use native.Mathlib.Omega.{arith}
use lib.Dec.{eqb}
use lib.ListN.{length, get_or, set, length-set}
use lib.Seq.{get_or-set_same, get_or-set_other}
use borrow.Author.Tests.{eq-eqb, ne_eqb, eqb-true, eqb-false}
use Rattle.laws.proofs.Tests.{by-test, or_true, or_false_right, and_false, same_tests}
use Rattle.halfedges.specs.Cage.{NEXT, PREV, marker, cell}
use Rattle.halfedges.proofs.Triangle.{prev_next, next_prev, next_below, prev_below}
use Rattle.tables.specs.Fans.{link, Joined, itself, linked, back, on, met, joined}
use Rattle.tables.specs.Internal.Walks.{Walkable}
use Rattle.tables.proofs.Walks.{joined_iff}
use Rattle.clauses.specs.Internal.Marks.{step, walked, Marked, Joins}

-- ---- one step

module _ (twin : List ℕ) (h : ℕ) where
  pub step_along : (along : Bool) → along ≡ true → link twin h ≡ step twin along h
  unfolding step
  step_along along a = rw a

  pub step_none : (along : Bool) → along ≡ false → cell twin h ≡ marker → cell twin h ≡ step twin along h
  unfolding step
  step_none along a m = rw (a, eq-eqb (cell twin h) marker m) m

  pub step_against : (along : Bool) → along ≡ false → cell twin h ≢ marker → NEXT (cell twin h) ≡ step twin along h
  unfolding step
  step_against along a n = rw (a, ne_eqb (cell twin h) marker n)

  pub step_below : Walkable twin → h < length twin → (along : Bool) → step twin along h ≢ marker → step twin along h < length twin
  unfolding step
  step_below w l true n = w.paired.below (PREV h) (prev_below w.whole l) n
  step_below w l false n = by (ℕ_discrete (cell twin h) marker) n
    where
      by : Dec (cell twin h ≡ marker) → step twin false h ≢ marker → step twin false h < length twin
      by (yes m) = rw (eq-eqb (cell twin h) marker m) (λ k. absurd (k refl))
      by (no m) = rw (ne_eqb (cell twin h) marker m) (λ k. next_below w.whole (w.paired.below h l m))

-- ---- a walk that is round

-- x is the halfedge after n of the walk from g
unfoldable pub reached : List ℕ → Bool → ℕ → ℕ → ℕ → Bool
reached twin along zero g x = eqb g x
reached twin along (suc n) g x = not (eqb (step twin along g) marker) && reached twin along n (step twin along g) x

module _ (twin : List ℕ) (along : Bool) where
  reached_more : (n g x : ℕ) → reached twin along n g x ≡ true → step twin along x ≢ marker → reached twin along (suc n) g (step twin along x) ≡ true
  unfolding reached
  reached_more zero g x e m = let q = eqb-true g x e in rw (q, ne_eqb (step twin along x) marker m, eq-eqb (step twin along x) (step twin along x) refl)
  reached_more (suc n) g x e m =
      by-test (eqb (step twin along g) marker)
      (λ t. absurd (true≢false (sym (rw t at e))))
      (λ f. rw f (reached_more n (step twin along g) x (rw f at e) m))

  only_one : (n g x y : ℕ) → reached twin along n g x ≡ true → reached twin along n g y ≡ true → x ≡ y
  unfolding reached
  only_one zero g x y a b = sym (eqb-true g x a) ∙ eqb-true g y b
  only_one (suc n) g x y a b =
      by-test (eqb (step twin along g) marker)
      (λ t. absurd (true≢false (sym (rw t at a))))
      (λ f. only_one n (step twin along g) x y (rw f at a) (rw f at b))

  -- of one halfedge more only the last is new
  last_walked : (n g h : ℕ) → walked twin along (suc n) g h ≡ true → (walked twin along n g h ≡ true) ⊎ (reached twin along n g h ≡ true)
  unfolding walked reached
  last_walked zero g h e = by-test (eqb g h) (λ t. inr t) (λ f. absurd (true≢false (sym (rw (f, and_false (not (eqb (step twin along g) marker))) at e))))
  last_walked (suc n) g h e =
      by-test (eqb g h) (λ t. inl (rw t))
      (λ f. by-test (eqb (step twin along g) marker)
      (λ t. absurd (true≢false (sym (rw (f, t) at e))))
      (λ m. ⊎_elim (λ a. inl (rw (f, m) a)) (λ b. inr (rw m b)) (last_walked n (step twin along g) h (rw (f, m) at e))))

  -- one halfedge further
  next-walked : (n g h : ℕ) → walked twin along n g h ≡ true → step twin along h ≢ marker → walked twin along (suc n) g (step twin along h) ≡ true
  unfolding walked
  next-walked zero g h e m = absurd (true≢false (sym e))
  next-walked (suc n) g h e m = by-test (eqb g h) here (further (λ f. next-walked n (step twin along g) h f m))
    where
      z : ℕ
      z = step twin along h

      here : eqb g h ≡ true → walked twin along (suc (suc n)) g z ≡ true
      here q =
          let s : step twin along g ≡ z = ap (step twin along) (eqb-true g h q) in
          rw (ne_eqb (step twin along g) marker (λ x. m (sym s ∙ x)), eq-eqb (step twin along g) z s) (or_true (eqb g z))

      further : (walked twin along n (step twin along g) h ≡ true → walked twin along (suc n) (step twin along g) z ≡ true) → eqb g h ≡ false → walked twin along (suc (suc n)) g z ≡ true
      further ih q =
          by-test (eqb (step twin along g) marker)
          (λ x. absurd (true≢false (sym (rw (q, x) at e))))
          (λ x. rw (x, ih (rw (q, x) at e)) (or_true (eqb g z)))

  pub first-walked : (n g : ℕ) → walked twin along (suc n) g g ≡ true
  unfolding walked
  first-walked n g = rw (eq-eqb g g refl)

  -- where n + 1 halfedges lead back to the first, a walk goes on among them
  module _ (n g : ℕ) (round : (x : ℕ) → reached twin along (suc n) g x ≡ true → x ≡ g) where
    goes_on : (y : ℕ) → walked twin along (suc n) g y ≡ true → step twin along y ≢ marker → walked twin along (suc n) g (step twin along y) ≡ true
    unfolding walked
    goes_on y e m =
        ⊎_elim (λ a. a) (λ b. rw (eq-eqb g (step twin along y) (sym (round (step twin along y) b))))
        (last_walked (suc n) g (step twin along y) (next-walked (suc n) g y e m))

    pub stays : (k y h : ℕ) → walked twin along (suc n) g y ≡ true → walked twin along k y h ≡ true → walked twin along (suc n) g h ≡ true
    unfolding walked
    stays zero y h a e = absurd (true≢false (sym e))
    stays (suc k) y h a e = by-test (eqb y h) (λ q. subst (λ t. walked twin along (suc n) g t ≡ true) (eqb-true y h q) a) (on_from (λ m. stays k (step twin along y) h (goes_on y a m)))
      where
        on_from : (step twin along y ≢ marker → walked twin along k (step twin along y) h ≡ true → walked twin along (suc n) g h ≡ true) → eqb y h ≡ false → walked twin along (suc n) g h ≡ true
        on_from ih q =
            by-test (eqb (step twin along y) marker)
            (λ x. absurd (true≢false (sym (rw (q, x) at e))))
            (λ x. ih (eqb-false _ _ x) (rw (q, x) at e))

-- ---- the walk's marks

-- the walk from g has come to x after t halfedges, which are marked, and n are left to go, x among them
pub record Going (twin : List ℕ) (along : Bool) (g : ℕ) (before now : List ℕ) (x t n : ℕ) : Type 0 where
  pub long : length now ≡ length before
  pub inside : x < length twin
  pub come : reached twin along t g x ≡ true
  pub marked : (h : ℕ) → h < length before → walked twin along t g h ≡ true → get_or now h 0 ≡ 1
  pub each : (h : ℕ) → h < length before → cond (walked twin along (length twin + 1) g h) 1 (get_or before h 0) ≡ cond (walked twin along n x h) 1 (get_or now h 0)

pub going_start : (twin : List ℕ) (along : Bool) (g : ℕ) (before : List ℕ) (n : ℕ) → g < length twin → n ≡ length twin + 1 → Going twin along g before before g 0 n
unfolding reached walked
going_start twin along g before n l e =
    rw e record { long = refl; inside = l; come = eq-eqb g g refl; marked = λ h b w. absurd (true≢false (sym w)); each = λ h b. refl }

cond_same : (b : Bool) → ◌≡◌ {A = ℕ} (cond b 1 1) 1
cond_same true = refl
cond_same false = refl

module _ {twin : List ℕ} {along : Bool} {g : ℕ} {before now : List ℕ} {x t : ℕ} where
  pub going_out : Going twin along g before now x t 0 → Marked twin along g before now
  unfolding walked
  going_out r = record { long = r.long; each = λ h l. sym (r.each h l) }

  module _ (few : length twin ≤ length before) {k : ℕ} (r : Going twin along g before now x t (suc k)) where
    -- x is marked, and what is left is the rest of the walk
    one_more : (h : ℕ) → cond (walked twin along (suc k) x h) 1 (get_or now h 0) ≡ cond (not (eqb (step twin along x) marker) && walked twin along k (step twin along x) h) 1 (get_or (set now x 1) h 0)
    unfolding walked
    one_more h = by (ℕ_discrete x h)
      where
        rest : Bool
        rest = not (eqb (step twin along x) marker) && walked twin along k (step twin along x) h

        by : Dec (x ≡ h) → cond (eqb x h || rest) 1 (get_or now h 0) ≡ cond rest 1 (get_or (set now x 1) h 0)
        by (yes q) = rw (eq-eqb x h q, ← q, get_or-set_same now x 1 0 (omega (arith, r.long, r.inside))) (sym (cond_same (not (eqb (step twin along x) marker) && walked twin along k (step twin along x) x)))
        by (no q) = rw (ne_eqb x h q, get_or-set_other now x h 1 0 (λ e. q (sym e)))

    still_long : length (set now x 1) ≡ length before
    still_long = length-set now x 1 ∙ r.long

    one_marked : (h : ℕ) → h < length before → walked twin along (suc t) g h ≡ true → get_or (set now x 1) h 0 ≡ 1
    one_marked h l e = by (ℕ_discrete x h)
      where
        by : Dec (x ≡ h) → get_or (set now x 1) h 0 ≡ 1
        by (yes q) = rw (← q) (get_or-set_same now x 1 0 (omega (arith, r.long, r.inside)))
        by (no q) =
            get_or-set_other now x h 1 0 (λ i. q (sym i))
            ∙ ⊎_elim (r.marked h l) (λ b. absurd (q (only_one twin along t g x h r.come b))) (last_walked twin along t g h e)

    pub going_on : Walkable twin → step twin along x ≢ marker → Going twin along g before (set now x 1) (step twin along x) (suc t) k
    going_on w n =
        record {
          long = still_long;
          inside = step_below twin x w r.inside along n;
          come = reached_more twin along t g x r.come n;
          marked = one_marked;
          each = λ h l. r.each h l ∙ rw (ne_eqb (step twin along x) marker n) at (one_more h);
        }

    pub going_end : step twin along x ≡ marker → Marked twin along g before (set now x 1)
    going_end m = record { long = still_long; each = λ h l. sym (r.each h l ∙ rw (eq-eqb (step twin along x) marker m) at (one_more h)) }

    -- back at the first, and all that a walk could still meet is marked
    pub going_round : step twin along x ≢ marker → step twin along x ≡ g → Marked twin along g before (set now x 1)
    going_round n q = record { long = still_long; each = λ h l. sym (r.each h l ∙ rest h ∙ met_before h l) }
      where
        rest : (h : ℕ) → cond (walked twin along (suc k) x h) 1 (get_or now h 0) ≡ cond (walked twin along k g h) 1 (get_or (set now x 1) h 0)
        rest h = rw (ne_eqb (step twin along x) marker n, q) at (one_more h)

        back_again : (y : ℕ) → reached twin along (suc t) g y ≡ true → y ≡ g
        back_again y e = only_one twin along (suc t) g y (step twin along x) e (reached_more twin along t g x r.come n) ∙ q

        met_before : (h : ℕ) → h < length before → cond (walked twin along k g h) 1 (get_or (set now x 1) h 0) ≡ get_or (set now x 1) h 0
        met_before h l =
            by-test (walked twin along k g h)
            (λ e. rw e (sym (one_marked h l (stays twin along t g back_again k g h (first-walked twin along t g) e))))
            (λ e. rw e)

-- ---- what the walks meet

-- along the links, the test of rule 7
along_met : (twin : List ℕ) (n g h : ℕ) → walked twin true (suc n) g h ≡ met twin n g h
unfolding walked met step
along_met twin zero g h = rw (and_false (not (eqb (link twin g) marker))) (or_false_right (eqb g h))
along_met twin (suc n) g h = ap (λ b. eqb g h || not (eqb (link twin g) marker) && b) (along_met twin n (link twin g) h)

module _ (twin : List ℕ) (w : Walkable twin) where
  -- one halfedge further against the links
  against_more : (n g k : ℕ) → walked twin false n g k ≡ true → cell twin k ≢ marker → NEXT (cell twin k) ≢ marker → walked twin false (suc n) g (NEXT (cell twin k)) ≡ true
  against_more n g k e m o =
      let s = step_against twin k false refl m in
      subst (λ y. walked twin false (suc n) g y ≡ true) (sym s) (next-walked twin false n g k e (λ x. o (s ∙ x)))

  -- what leads to g along the links is met from g against them
  met_against : (n g h : ℕ) → h < length twin → met twin n h g ≡ true → walked twin false (suc n) g h ≡ true
  unfolding walked met
  met_against zero g h l e = rw (eq-eqb g h (sym (eqb-true h g e)))
  met_against (suc n) g h l e = by-test (eqb h g) (λ q. rw (eq-eqb g h (sym (eqb-true h g q)))) (on_from (met_against n g (link twin h)))
    where
      b : PREV h < length twin
      b = prev_below w.whole l

      on_from : (link twin h < length twin → met twin n (link twin h) g ≡ true → walked twin false (suc n) g (link twin h) ≡ true) → eqb h g ≡ false → walked twin false (suc (suc n)) g h ≡ true
      on_from ih q =
          by-test (eqb (link twin h) marker)
          (λ x. absurd (true≢false (sym (rw (q, x) at e))))
          (λ x. let m = eqb-false _ _ x in
          let r = w.paired.back (PREV h) b m in
          let s : NEXT (cell twin (link twin h)) ≡ h = ap NEXT r ∙ next_prev h in
          subst (λ y. walked twin false (suc (suc n)) g y ≡ true) s
          (against_more (suc n) g (link twin h) (ih (w.paired.below (PREV h) b m) (rw (q, x) at e))
          (λ y. omega (arith, y, r, b, w.few)) (λ y. omega (arith, y, s, l, w.few))))

  against_step : (g : ℕ) → g < length twin → step twin false g ≢ marker → Joined twin g (step twin false g)
  against_step g l n = by (ℕ_discrete (cell twin g) marker)
    where
      by : Dec (cell twin g ≡ marker) → Joined twin g (step twin false g)
      by (yes m) = absurd (n (sym (step_none twin g false refl m) ∙ m))
      by (no m) =
          let s = step_against twin g false refl m in
          let t : link twin (NEXT (cell twin g)) ≡ g = ap (cell twin) (prev_next (cell twin g)) ∙ w.paired.back g l m in
          let j : Joined twin (NEXT (cell twin g)) (link twin (NEXT (cell twin g))) = linked (NEXT (cell twin g)) (next_below w.whole (w.paired.below g l m)) (λ x. omega (arith, x, t, l, w.few)) in
          rw (← s) (back (subst (Joined twin (NEXT (cell twin g))) t j))

  against_joined : (n g h : ℕ) → g < length twin → walked twin false n g h ≡ true → Joined twin g h
  unfolding walked
  against_joined zero g h l e = absurd (true≢false (sym e))
  against_joined (suc n) g h l e =
      by-test (eqb g h)
      (λ q. subst (Joined twin g) (eqb-true g h q) (itself g))
      (λ q. by-test (eqb (step twin false g) marker)
      (λ x. absurd (true≢false (sym (rw (q, x) at e))))
      (λ x. let m = eqb-false _ _ x in
      on (against_step g l m) (against_joined n (step twin false g) h (step_below twin g w l false m) (rw (q, x) at e))))

  both_ways : (g h : ℕ) → g < length twin → h < length twin → (walked twin false (suc (length twin)) g h || walked twin true (suc (length twin)) g h) ≡ joined twin g h
  unfolding joined
  both_ways g h lg lh = same_tests _ _ (sound, complete)
    where
      sound : (walked twin false (suc (length twin)) g h || walked twin true (suc (length twin)) g h) ≡ true → joined twin g h ≡ true
      sound e =
          by-test (walked twin false (suc (length twin)) g h)
          (λ q. (joined_iff twin w g h lg lh).1 (against_joined (suc (length twin)) g h lg q))
          (λ q. rw (sym (along_met twin (length twin) g h) ∙ (rw q at e)))

      complete : joined twin g h ≡ true → (walked twin false (suc (length twin)) g h || walked twin true (suc (length twin)) g h) ≡ true
      complete e =
          by-test (met twin (length twin) g h)
          (λ q. rw (along_met twin (length twin) g h ∙ q) (or_true (walked twin false (suc (length twin)) g h)))
          (λ q. rw (met_against (length twin) g h lh (rw q at e)))

  pub marked_joined : (g : ℕ) (zeros once twice : List ℕ) → g < length twin → length twin ≤ length zeros → ((h : ℕ) → h < length twin → get_or zeros h 0 ≡ 0) → Marked twin true g zeros once → Marked twin false g once twice → Joins twin g twice
  marked_joined g zeros once twice lg few z a b = record { each = each }
    where
      two : (p q : Bool) → ◌≡◌ {A = ℕ} (cond p 1 (cond q 1 0)) (cond (p || q) 1 0)
      two true q = refl
      two false q = refl

      each : (h : ℕ) → h < length twin → get_or twice h 0 ≡ cond (joined twin g h) 1 0
      each h l =
          b.each h (omega (arith, a.long))
          ∙ rw (a.each h (omega arith), z h l, add-one (length twin)) (two (walked twin false (suc (length twin)) g h) (walked twin true (suc (length twin)) g h) ∙ ap (λ x. cond x 1 0) (both_ways g h lg l))
