-- "negating every x in the cage negates every x at every depth, and leaves the other numbers as they were": of every cage, its creases,
-- weight, depth and lent table, along any axis (`pads`). Assumes nothing.
use Prim.Native.Nat.{ℕ, suc, ◌+◌, ◌*◌, ◌<◌}
use mathlib.Core.Path.{◌≡◌, refl, sym, ap, ap₂, fun_ext, subst, ◌∙◌}
use mathlib.Core.List.{List, ◌++◌}
use native.Mathlib.Decide.{ℕ_discrete}
use native.Mathlib.Omega.{arith}
use lib.Dec.{eqb}
use lib.IntN.{ℤ, pos}
use lib.ListN.{length, drop, length-append, get_or-append}
use lib.Seq.{drop_at}
use borrow.Author.Tests.{eq-eqb, ne_eqb}
use Rattle.laws.specs.Below.{end_to_end}
use Rattle.laws.specs.Parts.{in_front}
use Rattle.laws.proofs.EndToEnd.{length_multiples}
use Rattle.halfedges.specs.declared.table.HalfedgeTable.{HalfedgeTable}
use Rattle.halfedges.specs.declared.table.Levels.{Levels}
use Rattle.halfedges.specs.Refusals.{Verdict, DONE, first, Said, said, filled}
use Rattle.halfedges.specs.Counts.{Vs, no_levels, room_v, levels, count_question}
use Rattle.halfedges.proofs.Checks.{first_zero}
use Rattle.tables.specs.Tables.{Tables, counts_of}
use Rattle.levels.specs.Refining.{filled_tables, levels_end_to_end}
use Rattle.creases.specs.Creases.{creases_at}
use Rattle.levels.proofs.Granted.{granted}
use Rattle.points.specs.declared.weights.Weight.{Weight}
use Rattle.points.specs.NextPoints.{coordinate, level_points}
use Rattle.points.specs.Operations.{vertices, refine_checks, short_lent, refine_verdict, Refined, refine_cage}
use Rattle.points.proofs.Range.{level_points_long}
use Rattle.refining.proofs.Refined.{whole, tables_done, both_done}
use Rattle.mirror.specs.Mirror.{turned, mirrored, Pads}
use Rattle.mirror.proofs.Mirrored.{length-mirrored, mirrored-coordinate, mirrored-end_to_end}
use Rattle.mirror.proofs.Levels.{mirrored-levels}
use Rattle.mirror.proofs.Checks.{vertices-mirrored, checks_mirrored}

-- cells in front of a lent table, and the mirrored ones
module _ (k : ℕ) (cells lent_points : List ℤ) (n : ℕ) (long : length cells ≡ 3 * n) where
  image_long : length (mirrored k cells) ≡ 3 * n
  image_long = length-mirrored k cells ∙ long

  number : (j : ℕ) → j < 3 → (u : ℕ) → u < n → coordinate (in_front (mirrored k cells) lent_points) j u ≡ turned (eqb j k) (coordinate (in_front cells lent_points) j u)
  number j l u m =
      get_or-append (mirrored k cells) _ (pos 0) (3 * u + j) (omega (arith, image_long))
      ∙ mirrored-coordinate k cells j l u
      ∙ ap (turned (eqb j k)) (sym (get_or-append cells _ (pos 0) (3 * u + j) (omega (arith, long))))

  pads_done : (answer : Said Levels) (tables : Tables) (creases : List ℕ) → answer.values.vertex_room ≡ n → Pads k lent_points (record { answer = answer; lent = tables; points = in_front cells lent_points; creases = creases }) (record { answer = answer; lent = tables; points = in_front (mirrored k cells) lent_points; creases = creases })
  unfolding turned
  pads_done answer tables creases room =
      record {
        answer = refl;
        tables = refl;
        creases = refl;
        long =
            length-append (mirrored k cells) _
            ∙ ap₂ (λ a b. a + length (drop b lent_points)) (length-mirrored k cells) (length-mirrored k cells)
            ∙ sym (length-append cells _);
        negated = λ l u m. number k l u (rw room at m) ∙ rw (eq-eqb k k refl);
        kept = λ j l other u m. number j l u (rw room at m) ∙ rw (ne_eqb j k other);
        past_left = rw room (drop_at cells _ _ long ∙ ap (λ i. drop i lent_points) long);
        past_right = rw room (drop_at (mirrored k cells) _ _ image_long ∙ ap (λ i. drop i lent_points) image_long);
      }

module _ (c : Tables) (creases : List ℕ) (depth : ℕ) (lent : Tables) (lent_points : List ℤ) (lentCreases : List ℕ) where
  -- refining, from its verdict, the counts and each level's points
  abbrev refined_to : Verdict → HalfedgeTable → (ℕ → List ℤ) → Refined
  refined_to verdict t points =
      record {
        answer = said verdict (count_question t depth).values no_levels;
        lent = filled_tables verdict (levels_end_to_end t c depth) lent;
        points = filled verdict (end_to_end (suc depth) points) lent_points;
        creases = filled verdict (end_to_end (suc depth) (creases_at t creases)) lentCreases;
      }

  module _ (k : ℕ) (w : Weight) (points : List ℤ) where
    abbrev verdict : Verdict
    verdict = refine_verdict w c creases points depth lent lent_points lentCreases

    abbrev t : HalfedgeTable
    t = counts_of c (vertices points)

    -- each level's points, of the cage and of its mirror image
    abbrev own : ℕ → List ℤ
    own = level_points w t c creases points

    abbrev image : ℕ → List ℤ
    image d = mirrored k (own d)

    verdict_mirrored : refine_verdict w c creases (mirrored k points) depth lent lent_points lentCreases ≡ verdict
    unfolding refine_verdict
    verdict_mirrored =
        ap₂ (λ checks v. first (checks ++ short_lent (counts_of c v) depth lent lent_points lentCreases))
        (checks_mirrored k points c creases w depth) (vertices-mirrored k points)

    levels-mirrored : level_points w (counts_of c (vertices (mirrored k points))) c creases (mirrored k points) ≡ image
    levels-mirrored = ap (λ v. level_points w (counts_of c v) c creases (mirrored k points)) (vertices-mirrored k points) ∙ fun_ext (mirrored-levels k w t c creases points)

    right_is : refine_cage w c creases (mirrored k points) depth lent lent_points lentCreases ≡ refined_to verdict t image
    unfolding refine_cage
    right_is i = refined_to (verdict_mirrored i) (counts_of c (vertices-mirrored k points i)) (levels-mirrored i)

    module _ (z : verdict.number ≡ 0) where
      done : first (refine_checks w c creases points depth) ≡ DONE
      unfolding refine_verdict
      done = (both_done w c creases points depth lent lent_points lentCreases (first_zero _ z)).0

      own_long : (d : ℕ) → length (own d) ≡ 3 * Vs t d
      own_long = level_points_long w t c creases points (omega (arith, whole w c creases points depth done))

      room : (count_question t depth).values.vertex_room ≡ room_v t depth
      unfolding levels
      room = ap (λ a. a.values.vertex_room) (granted c (vertices points) depth (tables_done w c creases points depth done)).counts

    pads_of : Dec (verdict.number ≡ 0) → Pads k lent_points (refine_cage w c creases points depth lent lent_points lentCreases) (refined_to verdict t image)
    unfolding refine_cage said filled
    pads_of (yes z) =
        rw (eq-eqb verdict.number 0 z, ← mirrored-end_to_end k own (Vs t) (suc depth) (own_long z))
        (pads_done k (end_to_end (suc depth) own) lent_points (room_v t depth) (length_multiples 3 own (Vs t) (suc depth) (λ d l. own_long z d)) _ _ _ (room z))
    pads_of (no z) =
        rw (ne_eqb verdict.number 0 z)
        (record { answer = refl; tables = refl; creases = refl; long = refl; negated = λ l u m. absurd (omega (arith, m)); kept = λ j l other u m. absurd (omega (arith, m)); past_left = refl; past_right = refl })

    pub pads : Pads k lent_points (refine_cage w c creases points depth lent lent_points lentCreases) (refine_cage w c creases (mirrored k points) depth lent lent_points lentCreases)
    pads = subst (Pads k lent_points (refine_cage w c creases points depth lent lent_points lentCreases)) (sym right_is) (pads_of (ℕ_discrete verdict.number 0))
