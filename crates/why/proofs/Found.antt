-- What the cage check has found of the tables where it gives a number from 3 to 7: `found`, by the numbers that it gives, in their order.
-- Assumes nothing.
use Prim.Native.Nat.{ℕ, ◌≤◌, ◌%◌}
use mathlib.Core.Path.{◌≡◌, refl}
use mathlib.Core.Bool.{false, not, ◌||◌}
use mathlib.Core.List.{List, [], ◌∷◌}
use native.Mathlib.Omega.{arith}
use lib.Dec.{eqb}
use lib.IntN.{ℤ}
use lib.ListN.{length}
use Rattle.laws.proofs.Tests.{or_false}
use Rattle.halfedges.specs.Cage.{most_halfedges, most_vertices, E}
use Rattle.halfedges.specs.Refusals.{Verdict, DONE, SHAPE, LIMIT, TWIN, VERTEX, UNUSED, EDGE, FAN, POINT, CREASE, given, given_at, first}
use Rattle.halfedges.specs.Counts.{above_limit}
use Rattle.halfedges.proofs.Checks.{done_passes, done_nowhere}
use Rattle.halfedges.proofs.Questions.{limits_kept}
use Rattle.tables.specs.Tables.{Tables}
use Rattle.tables.specs.Rules.{misshapen, bad_twin, bad_vertex, unused, bad_edge}
use Rattle.tables.specs.Fans.{not_one_fan}
use Rattle.tables.specs.Internal.Relied.{ForPlaces}
use Rattle.tables.proofs.Meaning.{shaped, paired}
use Rattle.creases.specs.Check.{creased_rules}
use Rattle.points.specs.Operations.{vertices, creased_checks}
use Rattle.clauses.specs.Internal.Reached.{Reached}
use Rattle.clauses.proofs.Numbers.{Gives, none, also, gives, gives_at, found_at}

module _ (c : Tables) (creases : List ℕ) (points : List ℤ) where
  abbrev v : ℕ
  v = vertices points

  abbrev checks : List Verdict
  checks = creased_checks c creases points 0

  -- the numbers that the check gives, in its order
  numbers : Gives (1 ∷ 2 ∷ 3 ∷ 1 ∷ 4 ∷ 5 ∷ 6 ∷ 15 ∷ 7 ∷ 8 ∷ []) checks
  unfolding creased_checks creased_rules
  numbers =
      also (gives _ SHAPE)
      (also (gives _ LIMIT)
      (also (gives_at _ _ TWIN (λ j. refl))
      (also (gives _ SHAPE)
      (also (gives_at _ _ VERTEX (λ j. refl))
      (also (gives_at _ _ UNUSED (λ j. refl))
      (also (gives_at _ _ EDGE (λ j. refl))
      (also (gives_at _ _ CREASE (λ j. refl))
      (also (gives_at _ _ FAN (λ j. refl))
      (also (gives_at _ _ POINT (λ j. refl)) none)))))))))

  -- what 1 and 2 leave, and with them 3
  limits : (more : List Verdict) → first (given (misshapen c || not (eqb (length points % 3) 0)) SHAPE ∷ given (above_limit (length c.twin) v 0) LIMIT ∷ more) ≡ DONE → (misshapen c ≡ false) × (length c.twin ≤ most_halfedges) × (v ≤ most_vertices) × (first more ≡ DONE)
  limits more e =
      let one = done_passes (misshapen c || not (eqb (length points % 3) 0)) SHAPE _ refl e in
      let two = done_passes (above_limit (length c.twin) v 0) LIMIT more refl one.1 in
      let l = limits_kept (length c.twin) v 0 two.0 in
      ((or_false (misshapen c) _ one.0).0, l.0, l.1, two.1)

  places : (more : List Verdict) → first (given (misshapen c || not (eqb (length points % 3) 0)) SHAPE ∷ given (above_limit (length c.twin) v 0) LIMIT ∷ given_at (length c.twin) (bad_twin c.twin) TWIN ∷ more) ≡ DONE → ForPlaces c v
  places more e =
      let l = limits _ e in
      record {
        shaped = shaped c l.0;
        paired = paired c.twin (done_nowhere (length c.twin) (bad_twin c.twin) TWIN more (λ k. refl) l.3).0;
        few = l.1;
        room = l.2;
      }

  pub found : Reached c v (first checks)
  unfolding creased_checks creased_rules
  found =
      record {
        twin_at = λ e. let f = found_at 3 (omega arith) (length c.twin) (bad_twin c.twin) TWIN (λ j. refl) (λ j. refl) 2 numbers refl refl refl e in ((limits _ f.0).1, f.1);
        vertex_at = λ e. let f = found_at 4 (omega arith) (length c.twin) (bad_vertex c.twin c.vert v) VERTEX (λ j. refl) (λ j. refl) 4 numbers refl refl refl e in (places _ f.0, f.1);
        unused_at = λ e. let f = found_at 5 (omega arith) v (unused c.vert) UNUSED (λ j. refl) (λ j. refl) 5 numbers refl refl refl e in (places _ f.0, f.1);
        edge_at = λ e. let f = found_at 6 (omega arith) (length c.twin) (bad_edge c.twin c.edge (E c.twin)) EDGE (λ j. refl) (λ j. refl) 6 numbers refl refl refl e in (places _ f.0, f.1);
        fan_at = λ e. let f = found_at 7 (omega arith) v (not_one_fan c.twin c.vert) FAN (λ j. refl) (λ j. refl) 8 numbers refl refl refl e in (places _ f.0, f.1);
      }
