-- Which check of writing is given, as the code goes. Assumes nothing.
--     shape_given, limit_given, corners_left     1, 2, and where neither is given 4 and 8
--     checked_ready, in_range                    what they leave where all are passed
--     file-short, file_roomy                     then 9
--     stl_ready                                  what is left where writing is done
use Prim.Native.Nat.{ℕ, zero, suc, ◌+◌, ◌*◌, ◌%◌, ◌≤◌, ◌<◌, zero-le, suc-le-suc}
use mathlib.Core.Path.{◌≡◌, refl}
use mathlib.Core.Bool.{true, false, not}
use mathlib.Core.List.{List, [], ◌∷◌}
use native.Mathlib.Omega.{arith}
use lib.Dec.{eqb, ltb, lit≤}
use lib.IntN.{ℤ, pos, nat_abs}
use lib.ListN.{length, get_or}
use borrow.Author.Tests.{eqb-true, eqb-false, lt-ltb, le-ltb, ltb-false, leb-false, not-false}
use Rattle.laws.proofs.Tests.{or_false₃}
use Rattle.halfedges.specs.Cage.{F, cell}
use Rattle.halfedges.specs.Refusals.{DONE, SHAPE, LIMIT, VERTEX, POINT, ROOM, given, given_at, short, first}
use Rattle.halfedges.proofs.Checks.{Clean, passes_before, done_both, done_passes, done_nowhere}
use Rattle.points.specs.Operations.{most_coordinate, vertices, unshaped, out_of_range, InRange}
use Rattle.stl.specs.File.{stl_file}
use Rattle.stl.specs.Writing.{longest, past_points, stl_checks, stl_verdict}
use Rattle.stl.specs.Internal.Facets.{Ranged, Ready}
use Rattle.stl.proofs.FacetLaws.{file-length}

-- ---- 1, 2, 4 and 8

module _ (vert : List ℕ) (points : List ℤ) where
  pub shape_given : unshaped vert points ≡ true → SHAPE ≡ first (stl_checks vert points)
  unfolding stl_checks first given
  shape_given s = rw s

  module _ (s : unshaped vert points ≡ false) where
    pub limit_given : longest < length vert → LIMIT ≡ first (stl_checks vert points)
    unfolding stl_checks first given
    limit_given l = rw (s, lt-ltb longest (length vert) l)

    pub corners_left : length vert ≤ longest
        → first (given_at (length vert) (past_points vert (vertices points)) VERTEX ∷ given_at (length points) (out_of_range points) POINT ∷ []) ≡ first (stl_checks vert points)
    unfolding stl_checks first given
    corners_left l = rw (s, le-ltb longest (length vert) l)

-- ---- what they leave

all_placed : (vert : List ℕ) (points : List ℤ) → Clean (length vert) (past_points vert (vertices points)) → (h : ℕ) → h < length vert → 3 * cell vert h + 2 < length points
unfolding past_points
all_placed vert points c h l = omega (arith, leb-false (vertices points) (cell vert h) (c h l))

-- past the end nothing is out of range
pub in_range : (points : List ℤ) → InRange points → Ranged points
in_range points f = record { at = everywhere points f }
  where
    everywhere : (zs : List ℤ) → InRange zs → (i : ℕ) → nat_abs (get_or zs i (pos 0)) ≤ most_coordinate
    everywhere [] g i = lit≤ tt
    everywhere (z ∷ zs) g zero = g 0 (suc-le-suc zero-le)
    everywhere (z ∷ zs) g (suc i) = everywhere zs (λ j l. g (suc j) (suc-le-suc l)) i

all_ranged : (points : List ℤ) → Clean (length points) (out_of_range points) → Ranged points
unfolding out_of_range
all_ranged points c = in_range points (λ i l. ltb-false most_coordinate (nat_abs (get_or points i (pos 0))) (c i l))

some_triangle : (vert : List ℕ) (points : List ℤ) → unshaped vert points ≡ false → 3 ≤ length vert
unfolding unshaped
some_triangle vert points s =
    let clauses = or_false₃ (eqb (length vert) 0) (not (eqb (length vert % 3) 0)) (not (eqb (length points % 3) 0)) s in
    omega (arith, eqb-false (length vert) 0 clauses.0, eqb-true (length vert % 3) 0 (not-false _ clauses.1))

pub checked_ready : (vert : List ℕ) (points : List ℤ) → first (stl_checks vert points) ≡ DONE → Ready vert points
unfolding stl_checks
checked_ready vert points e =
    let shape = done_passes (unshaped vert points) SHAPE _ refl e in
    let limit = done_passes (ltb longest (length vert)) LIMIT _ refl shape.1 in
    let corners = done_nowhere (length vert) (past_points vert (vertices points)) VERTEX _ (λ k. refl) limit.1 in
    let range = done_nowhere (length points) (out_of_range points) POINT _ (λ k. refl) corners.1 in
    record {
      some = some_triangle vert points shape.0;
      few = ltb-false longest (length vert) limit.0;
      drawn = record { placed = all_placed vert points corners.0; ranged = all_ranged points range.0 };
    }

-- ---- 9

module _ (vert : List ℕ) (points : List ℤ) (lent : List ℕ) where
  -- the others are done
  module _ (e : DONE ≡ first (stl_checks vert points)) where
    room_left : first (short 6 (length (stl_file vert points)) (length lent) ∷ []) ≡ stl_verdict vert points lent
    unfolding stl_verdict
    room_left = passes_before (stl_checks vert points) _ e

    pub file-short : length lent < 84 + 50 * F (length vert) → ROOM 6 ≡ stl_verdict vert points lent
    unfolding short given first
    file-short l = rw (lt-ltb (length lent) (length (stl_file vert points)) (omega (arith, file-length vert points))) at room_left

    pub file_roomy : 84 + 50 * F (length vert) ≤ length lent → DONE ≡ stl_verdict vert points lent
    unfolding short given first
    file_roomy l = rw (le-ltb (length lent) (length (stl_file vert points)) (omega (arith, file-length vert points))) at room_left

  pub stl_ready : stl_verdict vert points lent ≡ DONE → Ready vert points × (84 + 50 * F (length vert) ≤ length lent)
  unfolding stl_verdict short
  stl_ready e =
      let d = done_both (stl_checks vert points) _ e in
      (checked_ready vert points d.0, omega (arith, file-length vert points, ltb-false (length lent) (length (stl_file vert points)) (done_passes _ _ _ refl d.1).0))
