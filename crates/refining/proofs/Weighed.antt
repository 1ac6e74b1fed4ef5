-- At every level of a cage that refining accepts each vertex inside has a weight: two corners at least, and with the paper's weight
-- no more than 32 (`weighed`). Assumes nothing.
use Prim.Native.Nat.{ℕ, ◌*◌, ◌^◌, ◌≤◌, ◌<◌}
use mathlib.Core.Path.{◌≡◌, refl}
use mathlib.Core.Logic.{◌⊎◌, inl, inr}
use mathlib.Core.Bool.{true, ◌||◌}
use mathlib.Core.List.{List, []}
use native.Mathlib.Decide.{dec_lt}
use native.Mathlib.Omega.{arith}
use lib.Dec.{eqb}
use lib.IntN.{ℤ}
use lib.ListN.{length}
use borrow.Author.Tests.{eqb-true, ltb-false}
use Rattle.laws.proofs.Tests.{by-test, any_true, and_true}
use Rattle.laws.proofs.Select.{length-select}
use Rattle.halfedges.specs.Cage.{marker, most_halfedges, most_depth, cell}
use Rattle.halfedges.specs.Refusals.{DONE, VALENCE, first}
use Rattle.halfedges.specs.Counts.{counts_at, Vs}
use Rattle.halfedges.proofs.Checks.{done_nowhere}
use Rattle.halfedges.proofs.Questions.{limits_kept}
use Rattle.tables.specs.Tables.{Tables, counts_of, leaves}
use Rattle.tables.specs.Ruled.{Shaped, Ruled}
use Rattle.tables.specs.Check.{table_checks}
use Rattle.tables.proofs.Accepted.{whole_meaning}
use Rattle.splitting.specs.NextLevel.{level}
use Rattle.invariance.specs.Invariance.{corners_at, OnBorder, Invariant}
use Rattle.invariance.proofs.VertexCount.{two_inside}
use Rattle.invariance.proofs.Levels.{accepted, stays_on_border, within_limits}
use Rattle.points.specs.declared.weights.Weight.{Weight}
use Rattle.points.specs.declared.weights.Weight.TheVariants.{Paper}
use Rattle.points.specs.Weights.{most_valence}
use Rattle.points.specs.NextPoints.{corners, far}
use Rattle.points.specs.Operations.{vertices, on_border, many_corners, refine_checks}
use Rattle.refining.proofs.Refined.{tables_done, valences_done}

-- the test for a border tells one
bordered : (c : Tables) → length c.vert ≡ length c.twin → (u : ℕ) → on_border c.twin c.vert u ≡ true → OnBorder c u
unfolding on_border
bordered c long u e =
    let k = any_true _ (length c.vert) e in
    let both = and_true _ _ k.2 in
    (k.0, omega (arith, k.1, long), eqb-true _ marker both.0, by k.0 both.1)
  where
    by : (h : ℕ) → (leaves c.vert u h || eqb (far c.vert h) u) ≡ true → (cell c.vert h ≡ u) ⊎ (far c.vert h ≡ u)
    by h t = by-test (leaves c.vert u h) (λ a. inl (eqb-true _ u a)) (λ a. inr (eqb-true _ u (rw a at t)))

module _ (w : Weight) (c : Tables) (creases : List ℕ) (points : List ℤ) (depth : ℕ) (e : first (refine_checks w c creases points depth) ≡ DONE) where
  abbrev v : ℕ
  v = vertices points

  done : first (table_checks c (vertices points) depth) ≡ DONE
  done = tables_done w c creases points depth e

  meant : Shaped c × Ruled c (vertices points) × (length c.twin ≤ most_halfedges)
  meant =
      let m = (whole_meaning c v depth).0 done in
      (m.0, m.2, (limits_kept (length c.twin) v depth m.1).0)

  -- of the cage's vertices, by 14
  few_inside : w ≡ Paper → (u : ℕ) → u < vertices points → ¬ OnBorder c u → corners_at c u ≤ most_valence
  unfolding many_corners corners_at corners
  few_inside paper u l inside =
      let clean = (done_nowhere v (many_corners c.twin c.vert) VALENCE [] (λ k. refl) (rw paper at (valences_done w c creases points depth e))).0 u l in
      by-test (on_border c.twin c.vert u) (λ on. absurd (inside (bordered c meant.0.vert_long u on)))
      (λ off. ltb-false most_valence _ (rw (off, length-select (leaves c.vert u) (length c.vert), meant.0.vert_long) at clean))

  module _ (d : ℕ) (l : d ≤ most_depth) where
    abbrev at : Tables
    at = level (counts_of c v) c d

    kept : Invariant (counts_of c (vertices points)) c d
    kept = accepted c v depth done d l

    within : 4 ^ d * length c.twin ≤ marker
    within = within_limits (length c.twin) d meant.2 l

    pub weighed : (u : ℕ) → u < Vs (counts_of c (vertices points)) d → ¬ OnBorder at u → (2 ≤ corners_at at u) × (w ≡ Paper → corners_at at u ≤ most_valence)
    unfolding counts_at
    weighed u b inside =
        (two_inside kept.shaped kept.ruled (omega (arith, kept.halfedges, within)) u b inside, λ paper. by paper (dec_lt u v))
      where
        by : w ≡ Paper → Dec (u < vertices points) → corners_at (level (counts_of c (vertices points)) c d) u ≤ most_valence
        by paper (yes a) =
            omega (arith, kept.cage_corners u a, few_inside paper u a (λ on. inside (stays_on_border c v meant.0 meant.1 d within u on)))
        by paper (no a) = omega (arith, (kept.added_corners u (omega (arith, a)) b).inside inside)
