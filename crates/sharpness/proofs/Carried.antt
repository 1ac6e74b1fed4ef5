-- A crease is counted once at each of its ends, by the halfedges that carry it: `ends_counted`. Assumes nothing.
use Prim.Native.Nat.{ℕ, ◌+◌, ◌≤◌, ◌<◌}
use mathlib.Core.Path.{◌≡◌, ap, ◌∙◌}
use mathlib.Core.Logic.{◌≢◌, ⊎_elim}
use mathlib.Core.Bool.{Bool, cond, ◌&&◌}
use mathlib.Core.List.{List}
use native.Mathlib.Decide.{ℕ_discrete}
use native.Mathlib.Omega.{arith}
use lib.Dec.{eqb, ltb}
use borrow.Author.Tests.{eq-eqb, ne_eqb}
use Rattle.laws.specs.Below.{sum}
use Rattle.laws.proofs.Tests.{or_true, same_eqb}
use Rattle.laws.proofs.Sums.{sum_same, sum_add, sum_none, sum_at_lem}
use Rattle.halfedges.specs.Cage.{marker, cell, border}
use Rattle.tables.specs.Tables.{Tables}
use Rattle.tables.specs.Ruled.{Ruled}
use Rattle.tables.proofs.EdgeCount.{twin_has_twin}
use Rattle.invariance.proofs.Refinable.{H, TWIN, EDGE}
use Rattle.points.specs.Internal.Creased.{crease_after}

module _ {c : Tables} {v : ℕ} (r : Ruled c v) (small : H c ≤ marker) {h : ℕ} (l : h < H c) where
  -- the sum of f over those that carry h's edge
  abbrev carriers : (ℕ → ℕ) → ℕ
  carriers f = sum (H c) (λ g. cond (eqb (EDGE c g) (EDGE c h)) (f g) 0)

  -- the same over h's twin, where it has one
  abbrev twins : (ℕ → ℕ) → ℕ → ℕ
  twins f g = cond (eqb g (TWIN c h)) (f g) 0

  h_and_twin : (f : ℕ → ℕ) → carriers f ≡ f h + sum (H c) (twins f)
  h_and_twin f =
      sum_same (H c) _ (λ g. cond (eqb g h) (f g) 0 + twins f g) (λ g lg. each g lg (ℕ_discrete g h))
      ∙ sum_add (H c) (λ g. cond (eqb g h) (f g) 0) (twins f)
      ∙ ap (λ (n : ℕ). n + sum (H c) (twins f)) (sum_at_lem (H c) h f l)
    where
      each : (g : ℕ) → g < H c → Dec (g ≡ h) → cond (eqb (EDGE c g) (EDGE c h)) (f g) 0 ≡ cond (eqb g h) (f g) 0 + twins f g
      each g lg (yes i) =
          let other : g ≢ TWIN c h = λ j. r.paired.other h l (omega arith) (omega arith) in
          rw (eq-eqb (EDGE c g) (EDGE c h) (ap (EDGE c) i), eq-eqb g h i, ne_eqb g (TWIN c h) other) (omega arith)
      each g lg (no i) =
          let own : EDGE c g ≡ EDGE c h → g ≡ TWIN c h = λ e. ⊎_elim (λ j. absurd (i j)) (λ j. j) (r.numbered.own g h lg l e) in
          rw (same_eqb (EDGE c g) (EDGE c h) g (TWIN c h) own (λ j. ap (EDGE c) j ∙ r.numbered.twin_same h l (omega arith)), ne_eqb g h i) (omega arith)

  -- x tells where a halfedge starts, and y where it ends
  pub ends_counted :
      (d : ℕ) (creases : List ℕ) (x y : ℕ → Bool) → (TWIN c h ≢ marker → x (TWIN c h) ≡ y h)
      → carriers (λ g. cond (crease_after d c creases g && x g) 1 0 + cond (border c.twin g && y g) 1 0)
      ≡ cond (crease_after d c creases h && x h) 1 0 + cond (crease_after d c creases h && y h) 1 0
  ends_counted d creases x y across = h_and_twin met ∙ by (ℕ_discrete (TWIN c h) marker)
    where
      met : ℕ → ℕ
      met g = cond (crease_after d c creases g && x g) 1 0 + cond (border c.twin g && y g) 1 0

      by : Dec (TWIN c h ≡ marker) → met h + sum (H c) (twins met) ≡ cond (crease_after d c creases h && x h) 1 0 + cond (crease_after d c creases h && y h) 1 0
      by (yes m) =
          let alone : sum (H c) (twins met) ≡ 0 = sum_none (H c) (twins met) (λ g lg. rw (ne_eqb g (TWIN c h) (omega arith))) in
          rw (alone, eq-eqb (TWIN c h) marker m, or_true (ltb d (cell creases (EDGE c h)))) (omega arith)
      by (no n) =
          rw (
            sum_at_lem (H c) (TWIN c h) met (r.paired.below h l n),
            ne_eqb (TWIN c h) marker n,
            ne_eqb (TWIN c (TWIN c h)) marker (twin_has_twin c.twin small r.paired h l n),
            r.numbered.twin_same h l n,
            across n,
          )
          (omega arith)
