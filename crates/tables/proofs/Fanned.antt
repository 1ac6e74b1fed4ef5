-- What rule 7's test means: given nowhere exactly when all halfedges that leave one vertex are joined (`fanned`,
-- `clean_fans`), where rule 3 holds. Assumes nothing.
use Prim.Native.Nat.{ℕ, ◌%◌, ◌<◌}
use mathlib.Core.Path.{◌≡◌, refl, sym, ◌∙◌}
use mathlib.Core.Bool.{false, not, ◌&&◌}
use mathlib.Core.List.{List}
use native.Mathlib.Decide.{ℕ_discrete}
use lib.ListN.{length}
use borrow.Author.Tests.{eq-eqb, ne_eqb, not-false}
use Rattle.laws.specs.Below.{any}
use Rattle.laws.proofs.Tests.{any_false, false_any, and_false}
use Rattle.halfedges.specs.Cage.{cell}
use Rattle.halfedges.proofs.Checks.{Clean}
use Rattle.tables.specs.Tables.{leaves}
use Rattle.tables.specs.Fans.{joined, not_one_fan}
use Rattle.tables.specs.Ruled.{Paired, Placed, Fanned}
use Rattle.tables.proofs.Joined.{joined_test, test_joined}

module _ (twin vert : List ℕ) (v : ℕ) (whole : length twin % 3 ≡ 0) (long : length vert ≡ length twin) (p : Paired twin) where
  pub fanned : Placed twin vert v → Clean v (not_one_fan twin vert) → Fanned twin vert
  unfolding not_one_fan
  fanned q f = record { one = λ g h lg lh e. test_joined twin whole p g h (rw long at lg) (rw long at lh) (not-false _ (two g h lg lh e)) }
    where
      two : (g h : ℕ) → g < length vert → h < length vert → cell vert g ≡ cell vert h → not (joined twin g h) ≡ false
      two g h lg lh e =
          let u = cell vert g in
          let a = any_false (λ g. any (length vert) (λ h. leaves vert u g && leaves vert u h && not (joined twin g h))) (length vert) (f u (q.below g (rw long at lg))) g lg in
          let b = any_false (λ h. leaves vert u g && leaves vert u h && not (joined twin g h)) (length vert) a h lh in
          rw (eq-eqb (cell vert g) u refl, eq-eqb (cell vert h) u (sym e)) at b

  pub clean_fans : Fanned twin vert → Clean v (not_one_fan twin vert)
  unfolding not_one_fan
  clean_fans q u l = false_any _ (length vert) (λ g lg. false_any _ (length vert) (λ h lh. by g h lg lh (ℕ_discrete (cell vert g) u) (ℕ_discrete (cell vert h) u)))
    where
      by : (g h : ℕ) → g < length vert → h < length vert → Dec (cell vert g ≡ u) → Dec (cell vert h ≡ u) → (leaves vert u g && leaves vert u h && not (joined twin g h)) ≡ false
      by g h lg lh (yes a) (yes b) =
          rw (joined_test twin whole p g h (rw long at lg) (rw long at lh) (q.one g h lg lh (a ∙ sym b))) (and_false (leaves vert u g && leaves vert u h))
      by g h lg lh (yes a) (no b) = rw (eq-eqb (cell vert g) u a, ne_eqb (cell vert h) u b)
      by g h lg lh (no a) d = rw (ne_eqb (cell vert g) u a)
