-- The corners inside, counted. Assumes nothing.
--     twin_kept, ends_cleared        what one halfedge clears, by whether it has a twin
--     cleared_none, cleared_on       and what the first ones do, one more at a time
--     counted-inside, many_is        what is left is each inner vertex's corners, by which rule 14 goes
use Prim.Native.Nat.{ℕ, ◌+◌, ◌≤◌, ◌<◌}
use mathlib.Core.Path.{◌≡◌, refl, sym, ap, ◌∙◌}
use mathlib.Core.Bool.{Bool, true, false, cond, ◌||◌}
use mathlib.Core.List.{List}
use native.Mathlib.Decide.{ℕ_discrete}
use native.Mathlib.Numerals.{add-one}
use native.Mathlib.Omega.{arith}
use lib.Dec.{eqb, ltb}
use lib.ListN.{length, get_or, set, length-set}
use lib.Seq.{get_or-set_same, get_or-set_other}
use borrow.Author.Tests.{eq-eqb, ne_eqb}
use Rattle.laws.specs.Below.{any}
use Rattle.laws.proofs.Tests.{by-test, or_true}
use Rattle.halfedges.specs.Cage.{cell, border}
use Rattle.tables.specs.Internal.Tally.{Tallied}
use Rattle.points.specs.Weights.{most_valence}
use Rattle.points.specs.NextPoints.{far}
use Rattle.points.specs.Operations.{border_at, on_border, many_corners}
use Rattle.points.proofs.Ends.{corners-counted}
use Rattle.valences.specs.Internal.Inside.{ClearedAt, Cleared, CountedInside}

-- what a test makes 0, and then another
either : (a b : Bool) (y : ℕ) → cond b 0 (cond a 0 y) ≡ cond (a || b) 0 y
either true true y = refl
either true false y = refl
either false b y = refl

-- two cells made 0
both : (l : List ℕ) (a b : ℕ) → a < length l → b < length l → (x : ℕ) → get_or (set (set l a 0) b 0) x 0 ≡ cond (eqb a x || eqb b x) 0 (get_or l x 0)
both l a b la lb x = by (ℕ_discrete b x) (ℕ_discrete a x)
  where
    by : Dec (b ≡ x) → Dec (a ≡ x) → get_or (set (set l a 0) b 0) x 0 ≡ cond (eqb a x || eqb b x) 0 (get_or l x 0)
    by (yes q) d = rw (eq-eqb b x q, or_true (eqb a x), ← q) (get_or-set_same (set l a 0) b 0 0 (simp length-set lb))
    by (no q) (yes p) = rw (eq-eqb a x p) (get_or-set_other (set l a 0) b x 0 0 (λ r. q (sym r)) ∙ rw (← p) (get_or-set_same l a 0 0 la))
    by (no q) (no p) = rw (ne_eqb a x p, ne_eqb b x q) (get_or-set_other (set l a 0) b x 0 0 (λ r. q (sym r)) ∙ get_or-set_other l a x 0 0 (λ r. p (sym r)))

module _ (twin vert : List ℕ) where
  module _ (h : ℕ) (l : List ℕ) where
    pub twin_kept : border twin h ≡ false → ClearedAt twin vert h l l
    twin_kept e = record { each = λ x _. rw e }

    pub ends_cleared : {to : ℕ} → to ≡ far vert h → border twin h ≡ true → cell vert h < length l → to < length l → ClearedAt twin vert h l (set (set l (cell vert h) 0) to 0)
    ends_cleared {to} q e lf lt = record { each = λ x _. rw (e, ← q) (both l (cell vert h) to lf lt x) }

  pub cleared_none : (l : List ℕ) → Cleared twin vert 0 l l
  cleared_none l = record { each = λ x _. refl }

  pub cleared_on : {n : ℕ} {before l m : List ℕ} → length l ≡ length before → Cleared twin vert n before l → ClearedAt twin vert n l m → Cleared twin vert (n + 1) before m
  cleared_on {n} {before} {l} {m} long c a =
      record {
        each = λ x b.
            rw (add-one n)
            (a.each x (omega arith)
            ∙ ap (cond (border_at twin vert x n) 0) (c.each x b)
            ∙ either (any n (border_at twin vert x)) (border_at twin vert x n) (get_or before x 0));
      }

  pub counted-inside : {v : ℕ} {before l : List ℕ} → v ≤ length before → length l ≡ length before → Tallied vert (length vert) before → Cleared twin vert (length vert) before l → CountedInside twin vert v l
  unfolding on_border
  counted-inside room long t c =
      record {
        room = omega arith;
        each = λ x b. c.each x (omega arith) ∙ ap (cond (any (length vert) (border_at twin vert x)) 0) (t.each x (omega arith) ∙ sym (corners-counted vert x));
      }

  pub many_is : {v : ℕ} {l : List ℕ} → CountedInside twin vert v l → (x : ℕ) → x < v → ltb most_valence (get_or l x 0) ≡ many_corners twin vert x
  unfolding many_corners
  many_is c x b = rw (c.each x b) (by-test (on_border twin vert x) (λ e. rw e) (λ e. rw e))
