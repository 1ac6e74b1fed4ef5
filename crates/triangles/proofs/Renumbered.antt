-- Other numbers in place of the corners, the same where those are, give the same pairs: `doubled_same`, `twins_same`. Assumes nothing.
use Prim.Native.Nat.{ℕ, zero, suc, ◌<◌}
use mathlib.Core.Path.{◌≡◌, refl, ap, ap₂, ◌∙◌}
use mathlib.Core.Bool.{Bool, cond, not, ◌&&◌, ◌||◌}
use mathlib.Core.List.{List}
use native.Mathlib.Nat.{le_refl}
use native.Mathlib.Omega.{arith}
use lib.Dec.{eqb, ltb}
use lib.ListN.{length}
use Rattle.laws.specs.Below.{tabulate, any, lowest}
use Rattle.laws.proofs.Tabulate.{tabulate_ext}
use Rattle.halfedges.specs.Cage.{NEXT, marker, cell}
use Rattle.halfedges.proofs.Triangle.{next_below}
use Rattle.triangles.specs.Plain.{runs, doubled, twins, twin_of, twin_table}
use Rattle.triangles.specs.Internal.Joining.{Whole}

any_ext : (n : ℕ) (p q : ℕ → Bool) → ((k : ℕ) → k < n → p k ≡ q k) → any n p ≡ any n q
any_ext zero p q e = refl
any_ext (suc n) p q e = ap₂ ◌||◌ (any_ext n p q (λ k l. e k (omega arith))) (e n (le_refl _))

lowest_ext : (n : ℕ) (p q : ℕ → Bool) → ((k : ℕ) → k < n → p k ≡ q k) → lowest n p ≡ lowest n q
lowest_ext zero p q e = refl
lowest_ext (suc n) p q e = ap₂ (λ b k. cond b 0 (suc k)) (e 0 (omega arith)) (lowest_ext n (λ k. p (suc k)) (λ k. q (suc k)) (λ k l. e (suc k) (omega arith)))

module _ (vert corners : List ℕ) (w : Whole vert) (long : length corners ≡ length vert) (same : (g h : ℕ) → g < length vert → h < length vert → eqb (cell corners g) (cell corners h) ≡ eqb (cell vert g) (cell vert h)) where
  inside : {h : ℕ} → h < length vert → NEXT h < length vert
  inside l = next_below w.whole l

  runs_same : (g h : ℕ) → g < length vert → h < length vert → runs corners (cell corners h) (cell corners (NEXT h)) g ≡ runs vert (cell vert h) (cell vert (NEXT h)) g
  runs_same g h m l = ap₂ ◌&&◌ (same g h m l) (same (NEXT g) (NEXT h) (inside m) (inside l))

  back_same : (g h : ℕ) → g < length vert → h < length vert → twins corners h g ≡ twins vert h g
  unfolding twins
  back_same g h m l = ap (λ b. not (eqb g h) && b) (ap₂ ◌&&◌ (same g (NEXT h) m (inside l)) (same (NEXT g) h (inside m) l))

  doubled_at : (h : ℕ) → h < length vert → doubled corners h ≡ doubled vert h
  unfolding doubled
  doubled_at h l =
      ap (λ n. any n (λ g. ltb h g && runs corners (cell corners h) (cell corners (NEXT h)) g)) long
      ∙ any_ext (length vert) _ _ (λ g m. ap (λ b. ltb h g && b) (runs_same g h m l))

  pub doubled_same : lowest (length corners) (doubled corners) ≡ lowest (length vert) (doubled vert)
  doubled_same = ap (λ n. lowest n (doubled corners)) long ∙ lowest_ext (length vert) (doubled corners) (doubled vert) doubled_at

  twin_same : (h : ℕ) → h < length vert → twin_of corners h ≡ twin_of vert h
  unfolding twin_of
  twin_same h l =
      ap (λ n. cond (any n (twins corners h)) (lowest n (twins corners h)) marker) long
      ∙ ap₂ (λ b k. cond b k marker) (any_ext (length vert) (twins corners h) (twins vert h) (λ g m. back_same g h m l)) (lowest_ext (length vert) (twins corners h) (twins vert h) (λ g m. back_same g h m l))

  pub twins_same : twin_table corners ≡ twin_table vert
  twins_same = ap (λ n. tabulate n (twin_of corners)) long ∙ tabulate_ext (length vert) (twin_of corners) (twin_of vert) twin_same
