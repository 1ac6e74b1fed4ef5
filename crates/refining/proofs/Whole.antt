-- Demand 3, of every cage that checks 1 to 8 and 15 accept, and 14 where it applies, at every depth and by either weight: `accepted_whole`.
-- Assumes nothing.
use Prim.Native.Nat.{ℕ, ◌≤◌}
use mathlib.Core.Path.{◌≡◌, sym, ◌∙◌}
use mathlib.Core.List.{List}
use native.Mathlib.Nat.{le_refl}
use native.Mathlib.Omega.{arith}
use lib.IntN.{ℤ}
use borrow.Author.Tests.{le-ltb}
use Rattle.halfedges.specs.Cage.{most_depth}
use Rattle.halfedges.specs.Refusals.{DONE, POINT, first}
use Rattle.halfedges.proofs.Checks.{first_more, given_alone, clean_done}
use Rattle.tables.specs.Tables.{Tables, counts_of}
use Rattle.invariance.proofs.Levels.{accepted}
use Rattle.points.specs.declared.weights.Weight.{Weight}
use Rattle.points.specs.Operations.{vertices, out_of_range, refine_checks}
use Rattle.points.proofs.Range.{levels_in_range}
use Rattle.sharpness.proofs.Levels.{accepted_creases}
use Rattle.refining.specs.Whole.{points_of, WholeInvariant}
use Rattle.refining.proofs.Relying.{relied}
use Rattle.refining.proofs.Weighed.{weighed}
use Rattle.refining.proofs.Refined.{creased_done, tables_done, in_range}

pub accepted_whole : (w : Weight) (c : Tables) (creases : List ℕ) (points : List ℤ) (depth : ℕ) → first (refine_checks w c creases points depth) ≡ DONE → (d : ℕ) → d ≤ most_depth → WholeInvariant w c creases points d
unfolding out_of_range
accepted_whole w c creases points depth e d l =
    let done = tables_done w c creases points depth e in
    let sharp = accepted_creases c creases (vertices points) depth (creased_done w c creases points depth e) d l in
    let kept = accepted c (vertices points) depth done d l in
    let range = levels_in_range w (counts_of c (vertices points)) c creases points d (λ k m. relied c (vertices points) depth done k (omega arith)) (in_range w c creases points depth e) d (le_refl _) in
    record {
      tables = kept;
      sharp = sharp;
      in_range = range;
      passes =
          first_more _ _ sharp.passes
          ∙ sym (given_alone _ (out_of_range (points_of w c creases points d)) POINT (λ k. omega arith))
          ∙ clean_done _ (out_of_range (points_of w c creases points d)) POINT (λ k m. le-ltb _ _ (range k m));
      weighed = weighed w c creases points depth e d l;
    }
