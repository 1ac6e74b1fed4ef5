-- "With all zeros the points equal today's": at every depth of an accepted cage (`accepted_zeros`), and so in the lent table of every cage
-- whatever was lent (`zeros`). Assumes nothing.
use Prim.Native.Nat.{ℕ, zero, suc, ◌+◌, ◌*◌, ◌/◌, ◌%◌, ◌≤◌, ◌<◌}
use mathlib.Core.Path.{◌≡◌, refl, ap, ◌∙◌}
use mathlib.Core.Logic.{◌⊎◌, inl, inr}
use mathlib.Core.Bool.{Bool, true, false, cond}
use mathlib.Core.List.{List, []}
use native.Mathlib.Decide.{ℕ_discrete}
use native.Mathlib.Omega.{arith}
use lib.Dec.{eqb, ltb}
use lib.IntN.{ℤ}
use lib.ListN.{length}
use borrow.Author.Tests.{ne_eqb, ltb-true}
use Rattle.laws.specs.Below.{end_to_end}
use Rattle.laws.proofs.Tabulate.{tabulate_ext}
use Rattle.laws.proofs.EndToEnd.{end_to_end-alike}
use Rattle.halfedges.specs.declared.table.HalfedgeTable.{HalfedgeTable}
use Rattle.halfedges.specs.Cage.{most_depth, cell}
use Rattle.halfedges.specs.Counts.{counts_at}
use Rattle.halfedges.specs.Refusals.{Verdict, DONE, first, filled}
use Rattle.halfedges.proofs.Checks.{first_zero}
use Rattle.tables.specs.Tables.{Tables, counts_of}
use Rattle.splitting.specs.NextLevel.{level}
use Rattle.creases.specs.Creases.{no_creases, creases_at}
use Rattle.creases.proofs.Table.{all_zeros}
use Rattle.points.specs.declared.weights.Weight.{Weight}
use Rattle.points.specs.NextPoints.{crease_ends, vertex_point, edge_point, new_point, next_points, level_points}
use Rattle.points.specs.Operations.{vertices, refine_checks, refine_verdict, refine_cage}
use Rattle.points.specs.Internal.Relied.{Relied}
use Rattle.points.proofs.Alike.{points_alike}
use Rattle.points.proofs.Ends.{creases_counted}
use Rattle.sharpness.proofs.Checks.{zero_each}
use Rattle.refining.proofs.Relying.{relied}
use Rattle.refining.proofs.Refined.{tables_done, both_done, counts_granted}
use Rattle.zeros.specs.Before as before

-- a choice by one test
chosen : {A : Type 0} (b : Bool) {x y u v : A} → (b ≡ true → x ≡ u) → (b ≡ false → y ≡ v) → cond b x y ≡ cond b u v
chosen true f g = f refl
chosen false f g = g refl

-- none or two: fewer than two is none
fewer_is_none : {A : Type 0} (n : ℕ) (x y z : A) → (n ≡ 0) ⊎ (n ≡ 2) → cond (ltb n 2) x (cond (eqb n 2) y z) ≡ cond (eqb n 0) x y
fewer_is_none n x y z (inl e) = rw e
fewer_is_none n x y z (inr e) = rw e

-- where no edge has a number, only borders are creases, and of those a vertex has none or two
module _ (w : Weight) (t : HalfedgeTable) (c : Tables) (relied : Relied t c) (points : List ℤ) where
  none_or_two : (v : ℕ) → v < t.vertices → (length (crease_ends c [] v) ≡ 0) ⊎ (length (crease_ends c [] v) ≡ 2)
  none_or_two v l = by (ℕ_discrete (length (crease_ends c [] v)) 0)
    where
      by : Dec (length (crease_ends c [] v) ≡ 0) → (length (crease_ends c [] v) ≡ 0) ⊎ (length (crease_ends c [] v) ≡ 2)
      by (yes e) = inl e
      by (no n) = inr (omega (arith, n, creases_counted c [] v, relied.bordered.one v l, relied.bordered.pair v l))

  vertex_same : (v k : ℕ) → v < t.vertices → vertex_point w c [] points v k ≡ before.vertex_point w c.twin c.vert points v k
  unfolding vertex_point before.vertex_point crease_ends before.crease_ends
  vertex_same v k l = fewer_is_none (length (crease_ends c [] v)) _ _ _ (none_or_two v l)

  point_same : (u k : ℕ) → new_point w t c [] points u k ≡ before.new_point w t c points u k
  unfolding new_point before.new_point edge_point before.edge_point
  point_same u k = chosen (ltb u t.vertices) (λ e. vertex_same u k (ltb-true u t.vertices e)) (λ _. refl)

  next_same : next_points w t c [] points ≡ before.next_points w t c points
  unfolding next_points before.next_points
  next_same = tabulate_ext (3 * (t.vertices + t.edges)) _ _ (λ i l. point_same (i / 3) (i % 3))

-- at every depth, of tables as the rules rely on
zeros_levels : (w : Weight) (t : HalfedgeTable) (c : Tables) (creases : List ℕ) (points : List ℤ) (depth : ℕ) → ((d : ℕ) → d < depth → Relied (counts_at t d) (level t c d)) → ((e : ℕ) → cell creases e ≡ 0) → (d : ℕ) → d ≤ depth → level_points w t c creases points d ≡ before.level_points w t c points d
unfolding level_points before.level_points
zeros_levels w t c creases points depth relied none zero l = refl
zeros_levels w t c creases points depth relied none (suc d) l =
    points_alike w (counts_at t d) (level t c d) (creases_at t creases d) [] (all_zeros t creases none d) (level_points w t c creases points d)
    ∙ next_same w (counts_at t d) (level t c d) (relied d l) (level_points w t c creases points d)
    ∙ ap (before.next_points w (counts_at t d) (level t c d)) (zeros_levels w t c creases points depth relied none d (omega arith))

module _ (w : Weight) (c : Tables) (points : List ℤ) (depth : ℕ) where
  abbrev none : List ℕ
  none = no_creases c.twin

  abbrev t : HalfedgeTable
  t = counts_of c (vertices points)

  pub accepted_zeros : first (refine_checks w c none points depth) ≡ DONE → (d : ℕ) → d ≤ most_depth → level_points w t c none points d ≡ before.level_points w t c points d
  accepted_zeros e d l =
      zeros_levels w t c none points d (λ k m. relied c (vertices points) depth (tables_done w c none points depth e) k (omega arith)) (zero_each c) d (omega arith)

  -- what refining leaves in the lent points
  module _ (lent : Tables) (lent_points : List ℤ) (lentCreases : List ℕ) where
    abbrev verdict : Verdict
    verdict = refine_verdict w c none points depth lent lent_points lentCreases

    -- the lent points once done with each level's points
    abbrev left : (ℕ → List ℤ) → List ℤ
    left levels = filled verdict (end_to_end (suc depth) levels) lent_points

    done : verdict.number ≡ 0 → first (refine_checks w c none points depth) ≡ DONE
    unfolding refine_verdict
    done z = (both_done w c none points depth lent lent_points lentCreases (first_zero _ z)).0

    left_same : Dec (verdict.number ≡ 0) → left (level_points w t c none points) ≡ left (before.level_points w t c points)
    unfolding filled
    left_same (no n) = rw (ne_eqb verdict.number 0 n)
    left_same (yes z) =
        let deep : depth ≤ most_depth = (counts_granted w c none points depth (done z) refl).1 in
        ap (λ cells. filled verdict cells lent_points) (end_to_end-alike _ _ (suc depth) (λ d l. accepted_zeros (done z) d (omega arith)))

    pub zeros : (refine_cage w c none points depth lent lent_points lentCreases).points ≡ left (before.level_points w t c points)
    unfolding refine_cage
    zeros = left_same (ℕ_discrete verdict.number 0)
