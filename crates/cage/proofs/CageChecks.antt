-- Checks 1 to 8 where the points are no multiple of 3, `cage_shape`, and else in their parts, `cage_parts`; with 15 and 14 `refine_shape` and
-- `refine_parts`; both by `checks_then_lem`. 8 alone, `points_last`. With the short weight there is no 14, `short_checks`. Where the checks are done 1 to 7 are, `tables-accepted`. What rule 14 relies on:
-- `for_valences`. Assumes nothing.
use Prim.Native.Nat.{ℕ, ◌%◌}
use mathlib.Core.Path.{◌≡◌, refl, sym}
use mathlib.Core.Logic.{◌≢◌}
use mathlib.Core.List.{List, [], ◌∷◌, ◌++◌}
use native.Mathlib.Omega.{arith}
use lib.IntN.{ℤ}
use lib.ListN.{length}
use borrow.Author.Tests.{eq-eqb, ne_eqb}
use Rattle.laws.proofs.Tests.{or_true, or_false_right}
use Rattle.halfedges.specs.Refusals.{Verdict, DONE, SHAPE, POINT, given, given_at, first}
use Rattle.halfedges.proofs.Checks.{done_both, given_alone}
use Rattle.halfedges.proofs.Questions.{limits_kept}
use Rattle.tables.specs.Tables.{Tables}
use Rattle.tables.specs.Rules.{misshapen}
use Rattle.tables.specs.Check.{rules, checks_then, table_checks}
use Rattle.tables.proofs.Accepted.{whole_meaning}
use Rattle.creases.specs.Check.{creased_rules, creased_table_checks}
use Rattle.points.specs.declared.weights.Weight.{Weight}
use Rattle.points.specs.declared.weights.Weight.TheVariants.{Short}
use Rattle.points.specs.Operations.{vertices, out_of_range, valence_checks, checks_with, cage_checks, creased_checks, refine_checks}
use Rattle.valences.specs.Internal.Inside.{ForValences}

-- no 14 with the short weight
pub short_checks : (c : Tables) (creases : List ℕ) (points : List ℤ) (depth : ℕ) → refine_checks Short c creases points depth ≡ creased_checks c creases points depth
unfolding refine_checks creased_checks
short_checks c creases points depth = refl

pub for_valences : (c : Tables) (v depth : ℕ) → first (table_checks c v depth) ≡ DONE → ForValences c.twin c.vert v
for_valences c v depth e =
    let m = (whole_meaning c v depth).0 e in
    let k = limits_kept (length c.twin) v depth m.1 in
    record {
      long = sym m.0.vert_long;
      whole = rw m.0.vert_long m.0.whole;
      few = rw m.0.vert_long k.0;
      room = k.1;
      below = λ h l. m.2.placed.below h (rw m.0.vert_long at l);
    }

-- 8
abbrev pub last : List ℤ → List Verdict
last points = given_at (length points) (out_of_range points) POINT ∷ []

pub points_last : (points : List ℤ) → given_at (length points) (out_of_range points) POINT ≡ first (last points)
points_last points = given_alone (length points) (out_of_range points) POINT (λ k. omega arith)

module _ (three more : List Verdict) (c : Tables) (points : List ℤ) (depth : ℕ) where
  shape : length points % 3 ≢ 0 → SHAPE ≡ first (checks_with three more c points depth)
  unfolding first given
  shape n = simp (ne_eqb (length points % 3) 0 n, or_true (misshapen c))

  -- 1 and 2 with the rules handed over, then more, and then 8
  pub checks_then_lem : length points % 3 ≡ 0 → checks_with three more c points depth ≡ checks_then three c (vertices points) depth ++ (more ++ last points)
  checks_then_lem whole = rw (eq-eqb (length points % 3) 0 whole, or_false_right (misshapen c))

-- without creases
module _ (c : Tables) (points : List ℤ) (depth : ℕ) where
  pub cage_shape : length points % 3 ≢ 0 → SHAPE ≡ first (cage_checks c points depth)
  unfolding cage_checks
  cage_shape = shape (rules c (vertices points)) [] c points depth

  pub cage_parts : length points % 3 ≡ 0 → cage_checks c points depth ≡ table_checks c (vertices points) depth ++ last points
  unfolding cage_checks table_checks
  cage_parts = checks_then_lem (rules c (vertices points)) [] c points depth

-- with creases, and 14
module _ (w : Weight) (c : Tables) (creases : List ℕ) (points : List ℤ) (depth : ℕ) where
  abbrev valence : List Verdict
  valence = valence_checks w c.twin c.vert (vertices points)

  pub refine_shape : length points % 3 ≢ 0 → SHAPE ≡ first (refine_checks w c creases points depth)
  unfolding refine_checks
  refine_shape = shape (creased_rules c creases (vertices points)) valence c points depth

  pub refine_parts : length points % 3 ≡ 0 → refine_checks w c creases points depth ≡ creased_table_checks c creases (vertices points) depth ++ (valence ++ last points)
  unfolding refine_checks creased_table_checks
  refine_parts = checks_then_lem (creased_rules c creases (vertices points)) valence c points depth

-- so where the cage check is done, 1 to 7 are
pub tables-accepted : (c : Tables) (points : List ℤ) (depth : ℕ) → length points % 3 ≡ 0 → first (cage_checks c points depth) ≡ DONE → first (table_checks c (vertices points) depth) ≡ DONE
unfolding cage_checks table_checks
tables-accepted c points depth whole e = (done_both _ _ (rw (checks_then_lem (rules c (vertices points)) [] c points depth whole) at e)).0
