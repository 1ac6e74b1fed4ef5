-- Which check of building is given, as the code goes. Assumes nothing.
--     shape_given, limit_given, doubled-given, checks_left     1, 2 and 13, and where none of them is given the checks that are left
--     whole, twinned                                           what is known there
--     twin_short, edge_short, both_roomy                       9
--     checks_given, room_left                                  all checks before the room, and then this
use Prim.Native.Nat.{ℕ, ◌%◌, ◌≤◌, ◌<◌}
use mathlib.Core.Path.{◌≡◌, sym, ap, ◌∙◌}
use mathlib.Core.Bool.{Bool, true, false, not}
use mathlib.Core.List.{List, [], ◌∷◌}
use native.Mathlib.Omega.{arith}
use lib.Dec.{eqb}
use lib.IntN.{ℤ}
use lib.ListN.{length}
use borrow.Author.Tests.{eqb-true, lt-ltb, le-ltb, not-false}
use Rattle.laws.specs.Below.{any, lowest}
use Rattle.laws.proofs.Tests.{by-test, or_false₃, any_false}
use Rattle.laws.proofs.Lowest.{lowest_none}
use Rattle.halfedges.specs.declared.refusal.Refusal.{Refusal}
use Rattle.halfedges.specs.Refusals.{Verdict, SHAPE, LIMIT, ROOM, DOUBLED, DONE, refused, given, given_at, short, first}
use Rattle.halfedges.specs.Counts.{above_limit}
use Rattle.halfedges.proofs.Checks.{is_passed, clean_done, first-refused, first_passed, stops_before, passes_before}
use Rattle.halfedges.proofs.Questions.{limits_kept}
use Rattle.points.specs.Operations.{vertices, unshaped}
use Rattle.triangles.specs.Plain.{doubled, Undoubled, twin_table}
use Rattle.triangles.specs.Internal.Joining.{Whole}
use Rattle.triangles.proofs.Doubles.{undoubled}
use Rattle.building.specs.Building.{build_checks, build_verdict}
use Rattle.building.specs.Internal.Relied.{Twinned, built_checks}

-- the lowest place is one that fails, unless it is n
given-lowest : (n : ℕ) (bad : ℕ → Bool) (at : ℕ → Verdict) → lowest n bad < n → given_at n bad at ≡ at (lowest n bad)
unfolding given_at given
given-lowest n bad at l = by-test (any n bad) (λ t. rw t) (λ f. absurd (omega (arith, lowest_none n bad (any_false bad n f))))

module _ (vert : List ℕ) (points : List ℤ) where
  pub shape_given : unshaped vert points ≡ true → SHAPE ≡ first (build_checks vert points)
  unfolding build_checks first given
  shape_given s = simp s

  module _ (s : unshaped vert points ≡ false) where
    pub limit_given : above_limit (length vert) (vertices points) 0 ≡ true → LIMIT ≡ first (build_checks vert points)
    unfolding build_checks first given
    limit_given l = simp (s, l)

    module _ (l : above_limit (length vert) (vertices points) 0 ≡ false) where
      pub whole : Whole vert
      unfolding unshaped
      whole =
          record {
            whole = eqb-true _ _ (not-false _ (or_false₃ (eqb (length vert) 0) (not (eqb (length vert % 3) 0)) (not (eqb (length points % 3) 0)) s).1);
            few = (limits_kept (length vert) (vertices points) 0 l).0;
          }

      -- p is where the first doubled pair has its lower halfedge
      pub doubled-given : {p : ℕ} → p < length vert → p ≡ lowest (length vert) (doubled vert) → DOUBLED p ≡ first (build_checks vert points)
      unfolding build_checks
      doubled-given b e =
          let g = given-lowest (length vert) (doubled vert) DOUBLED (rw (← e) b) in
          rw e
          (sym (first_passed _ _ (is_passed _ SHAPE s)
          ∙ first_passed _ _ (is_passed _ LIMIT l)
          ∙ first-refused _ _ (rw g (omega arith))
          ∙ g))

      -- no pair is doubled
      module _ (none : lowest (length vert) (doubled vert) ≡ length vert) where
        none_doubled : Undoubled vert
        none_doubled = undoubled vert (omega (arith, none))

        pub twinned : {twin : List ℕ} → twin ≡ twin_table vert → Twinned twin vert (vertices points)
        twinned t = record { built = t; undoubled = none_doubled; whole = whole; few = (limits_kept (length vert) (vertices points) 0 l).1 }

        pub checks_left : first (built_checks vert points) ≡ first (build_checks vert points)
        unfolding built_checks build_checks
        checks_left =
            sym (first_passed _ _ (is_passed _ SHAPE s)
            ∙ first_passed _ _ (is_passed _ LIMIT l)
            ∙ first_passed _ _ (ap (λ w. w.number) (clean_done _ _ DOUBLED none_doubled.each)))

-- 9, by how long TWIN and EDGE are
abbrev rooms : ℕ → ℕ → ℕ → List Verdict
rooms n t e = short 1 n t ∷ short 3 n e ∷ []

module _ (n t e : ℕ) where
  pub twin_short : t < n → ROOM 1 ≡ first (rooms n t e)
  unfolding short given first
  twin_short l = simp (lt-ltb t n l)

  pub edge_short : n ≤ t → e < n → ROOM 3 ≡ first (rooms n t e)
  unfolding short given first
  edge_short l m = simp (le-ltb t n l, lt-ltb e n m)

  pub both_roomy : n ≤ t → n ≤ e → DONE ≡ first (rooms n t e)
  unfolding short given first
  both_roomy l m = simp (le-ltb t n l, le-ltb e n m)

-- where the checks before the room tell a refusal, and where they are done
module _ (vert : List ℕ) (points : List ℤ) (x y : List ℕ) where
  pub checks_given : (r : Refusal) → refused r ≡ first (build_checks vert points) → refused r ≡ build_verdict vert points x y
  unfolding build_verdict
  checks_given r e = stops_before _ _ r e

  pub room_left : DONE ≡ first (build_checks vert points) → first (rooms (length vert) (length x) (length y)) ≡ build_verdict vert points x y
  unfolding build_verdict
  room_left e = passes_before (build_checks vert points) _ e
