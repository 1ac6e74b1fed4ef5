-- A mirror image is judged as the cage is: rule 8 fails at the same places, so the checks of refining are the same list
-- (`checks_mirrored`), and the cage check gives the same answer (`check_mirrored`). Assumes nothing.
use Prim.Native.Nat.{ℕ, ◌/◌, ◌%◌}
use mathlib.Core.Path.{◌≡◌, ap, ap₂, fun_ext, ◌∙◌}
use mathlib.Core.Bool.{not, ◌||◌}
use mathlib.Core.List.{List, [], ◌∷◌, ◌++◌}
use lib.Dec.{eqb, ltb}
use lib.IntN.{ℤ, pos, nat_abs}
use lib.ListN.{length, get_or, replicate}
use Rattle.halfedges.specs.Refusals.{SHAPE, LIMIT, POINT, given, given_at, first, said}
use Rattle.halfedges.specs.Counts.{above_limit}
use Rattle.tables.specs.Tables.{Tables}
use Rattle.tables.specs.Rules.{misshapen}
use Rattle.tables.specs.Check.{returned}
use Rattle.creases.specs.Check.{creased_rules}
use Rattle.points.specs.declared.weights.Weight.{Weight}
use Rattle.points.specs.declared.weights.Weight.TheVariants.{Short}
use Rattle.points.specs.Operations.{vertices, most_coordinate, out_of_range, valence_checks, refine_checks, check_creased}
use Rattle.cage.proofs.CageChecks.{short_checks}
use Rattle.mirror.specs.Mirror.{mirrored}
use Rattle.mirror.proofs.Turned.{turned_size}
use Rattle.mirror.proofs.Mirrored.{length-mirrored, mirrored_at}

module _ (k : ℕ) (points : List ℤ) where
  out_of_range_mirrored : (i : ℕ) → out_of_range (mirrored k points) i ≡ out_of_range points i
  unfolding out_of_range
  out_of_range_mirrored i =
      ap (λ z. ltb most_coordinate (nat_abs z)) (mirrored_at k points i)
      ∙ ap (ltb most_coordinate) (turned_size (eqb (i % 3) k) (get_or points i (pos 0)))

  pub vertices-mirrored : vertices (mirrored k points) ≡ vertices points
  vertices-mirrored = ap (λ n. n / 3) (length-mirrored k points)

  module _ (c : Tables) (creases : List ℕ) where
    pub checks_mirrored : (w : Weight) (depth : ℕ) → refine_checks w c creases (mirrored k points) depth ≡ refine_checks w c creases points depth
    unfolding refine_checks
    checks_mirrored w depth =
        ap₂
        (λ n bad.
        given (misshapen c || not (eqb (n % 3) 0)) SHAPE
        ∷ given (above_limit (length c.twin) (n / 3) depth) LIMIT
        ∷ (creased_rules c creases (n / 3) ++ (valence_checks w c.twin c.vert (n / 3) ++ (given_at n bad POINT ∷ []))))
        (length-mirrored k points)
        (fun_ext out_of_range_mirrored)

    pub check_mirrored : check_creased c creases (mirrored k points) ≡ check_creased c creases points
    unfolding check_creased
    check_mirrored =
        rw (← short_checks c creases (mirrored k points) 0, ← short_checks c creases points 0)
        (ap₂ (λ checks v. said (first checks) (returned c.twin v) (replicate 5 0)) (checks_mirrored Short 0) vertices-mirrored)
