-- Rules 5 and 6 by counting: a vertex without corners (`unused-count`), and an edge's carriers, who are a halfedge, its twin and
-- strangers (`alone_count`, `paired_count`). Assumes nothing.
use Prim.Native.Nat.{ℕ, ◌+◌, ◌<◌}
use mathlib.Core.Path.{◌≡◌, refl, sym, ap, ◌∙◌}
use mathlib.Core.Logic.{◌≢◌}
use mathlib.Core.Bool.{Bool, true, false, cond, not, ◌&&◌}
use mathlib.Core.List.{List}
use native.Mathlib.Decide.{ℕ_discrete}
use native.Mathlib.Omega.{arith}
use lib.Dec.{eqb}
use lib.ListN.{length}
use borrow.Author.Tests.{eq-eqb, ne_eqb}
use Rattle.laws.specs.Below.{any, count}
use Rattle.laws.proofs.Tests.{by-test, same_eqb}
use Rattle.laws.proofs.Counts.{count_one, count_split, any-count}
use Rattle.halfedges.specs.Cage.{marker, cell}
use Rattle.tables.specs.Tables.{leaves}
use Rattle.tables.specs.Rules.{unused, stranger}

not_not : (b : Bool) → not (not b) ≡ b
not_not true = refl
not_not false = refl

pub unused-count : (vert : List ℕ) (v : ℕ) → unused vert v ≡ eqb (count (length vert) (leaves vert v)) 0
unfolding unused
unused-count vert v = rw (any-count (length vert) (leaves vert v)) (not_not _)

module _ (twin edge : List ℕ) (h : ℕ) (l : h < length edge) where
  abbrev carries : ℕ → Bool
  carries = leaves edge (cell edge h)

  carries_own : (g : ℕ) → g ≡ h → carries g ≡ true
  carries_own g e = eq-eqb _ _ (ap (cell edge) e)

  -- where h has no twin: h and the strangers
  pub alone_count : cell twin h ≡ marker → length edge < marker → any (length edge) (stranger twin edge h) ≡ not (eqb (count (length edge) carries) 1)
  unfolding stranger
  alone_count m s =
      any-count (length edge) (stranger twin edge h)
      ∙ ap not (sym (same_eqb (count (length edge) carries) 1 (count (length edge) (stranger twin edge h)) 0 (λ e. omega (arith, parts)) (λ e. omega (arith, parts))))
    where
      each : (g : ℕ) → g < length edge → cond (carries g) 1 0 ≡ cond (eqb g h) 1 0 + cond (stranger twin edge h g) 1 0
      each g lg = by (ℕ_discrete g h)
        where
          other : g ≢ cell twin h
          other = omega (arith, m, s)

          by : Dec (g ≡ h) → cond (carries g) 1 0 ≡ cond (eqb g h) 1 0 + cond (stranger twin edge h g) 1 0
          by (yes e) = rw (carries_own g e, eq-eqb g h e)
          by (no e) = rw (ne_eqb g h e, ne_eqb g (cell twin h) other) (by-test (carries g) (λ t. rw t) (λ f. rw f))

      parts : count (length edge) carries ≡ 1 + count (length edge) (stranger twin edge h)
      parts = omega (arith, count_split (length edge) carries (λ g. eqb g h) (stranger twin edge h) each, count_one (length edge) h l)

  -- where h has a twin: h, the twin and the strangers
  pub paired_count : cell twin h < length edge → cell twin h ≢ h → cell edge (cell twin h) ≡ cell edge h → any (length edge) (stranger twin edge h) ≡ not (eqb (count (length edge) carries) 2)
  unfolding stranger
  paired_count lt ne same =
      any-count (length edge) (stranger twin edge h)
      ∙ ap not (sym (same_eqb (count (length edge) carries) 2 (count (length edge) (stranger twin edge h)) 0 (λ e. omega (arith, parts)) (λ e. omega (arith, parts))))
    where
      rest : ℕ → Bool
      rest g = carries g && not (eqb g h)

      first : (g : ℕ) → g < length edge → cond (carries g) 1 0 ≡ cond (eqb g h) 1 0 + cond (rest g) 1 0
      first g lg = by (ℕ_discrete g h)
        where
          by : Dec (g ≡ h) → cond (carries g) 1 0 ≡ cond (eqb g h) 1 0 + cond (rest g) 1 0
          by (yes e) = rw (carries_own g e, eq-eqb g h e)
          by (no e) = rw (ne_eqb g h e) (by-test (carries g) (λ t. rw t) (λ f. rw f))

      second : (g : ℕ) → g < length edge → cond (rest g) 1 0 ≡ cond (eqb g (cell twin h)) 1 0 + cond (stranger twin edge h g) 1 0
      second g lg = by (ℕ_discrete g (cell twin h))
        where
          by : Dec (g ≡ cell twin h) → cond (rest g) 1 0 ≡ cond (eqb g (cell twin h)) 1 0 + cond (stranger twin edge h g) 1 0
          by (yes e) =
              let c : carries g ≡ true = eq-eqb _ _ (ap (cell edge) e ∙ same) in
              let d : g ≢ h = λ q. ne (sym e ∙ q) in
              rw (c, ne_eqb g h d, eq-eqb g (cell twin h) e)
          by (no e) = rw (ne_eqb g (cell twin h) e) (by-test (carries g) (λ t. by-test (eqb g h) (λ q. rw (t, q)) (λ q. rw (t, q))) (λ f. rw f))

      parts : count (length edge) carries ≡ 2 + count (length edge) (stranger twin edge h)
      parts =
          omega (
            arith,
            count_split (length edge) carries (λ g. eqb g h) rest first,
            count_split (length edge) rest (λ g. eqb g (cell twin h)) (stranger twin edge h) second,
            count_one (length edge) h l,
            count_one (length edge) (cell twin h) lt,
          )
