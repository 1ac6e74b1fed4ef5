-- The crease table has room for its levels (`writable`); the tables of all levels, and a table with the cage's points in front, are ready
-- for the points of all levels (`readied`); these are the outcome (`outcome`). Assumes nothing.
use Prim.Native.Nat.{ℕ, suc, ◌*◌, ◌≤◌}
use mathlib.Core.Path.{◌≡◌, sym, ap, subst, ◌∙◌}
use mathlib.Core.List.{List}
use native.Mathlib.Omega.{arith}
use lib.IntN.{ℤ}
use lib.ListN.{length, take, drop}
use lib.Seq.{take-append_seam}
use Rattle.laws.specs.Below.{tabulate, end_to_end, sum}
use Rattle.laws.specs.Parts.{in_front}
use Rattle.laws.proofs.Parts.{length-in_front}
use Rattle.laws.proofs.InFront.{part-in_front, in_front_over}
use Rattle.laws.proofs.Sums.{sum_grows}
use Rattle.laws.proofs.EndToEnd.{part_of, starts_within, length_multiples}
use Rattle.halfedges.specs.declared.table.HalfedgeTable.{HalfedgeTable}
use Rattle.halfedges.specs.declared.table.Levels.{Levels}
use Rattle.halfedges.specs.Refusals.{DONE, first}
use Rattle.halfedges.specs.Counts.{counts_at, Vs, room_v, levels}
use Rattle.tables.specs.Tables.{Tables, tables, counts_of}
use Rattle.tables.specs.Check.{table_checks}
use Rattle.splitting.specs.NextLevel.{level}
use Rattle.splitting.specs.Internal.InPlace.{Sound}
use Rattle.levels.specs.Internal.Filling.{tables_in_front}
use Rattle.levels.specs.Refining.{levels_end_to_end}
use Rattle.levels.proofs.Granted.{Granted, granted}
use Rattle.creases.specs.Creases.{creases_at}
use Rattle.creases.specs.Check.{creased_table_checks}
use Rattle.creases.specs.Internal.Writing.{Writable}
use Rattle.creases.proofs.Accepted.{as_long}
use Rattle.points.specs.declared.weights.Weight.{Weight}
use Rattle.points.specs.NextPoints.{corners, level_points}
use Rattle.points.proofs.Range.{level_points_long}
use Rattle.points.specs.Operations.{vertices, refine_checks, refine_verdict, refine_cage}
use Rattle.points.specs.Internal.Relied.{Known}
use Rattle.points.specs.Internal.Creased.{listed_after, KnownCreases}
use Rattle.sharpness.proofs.Levels.{known_creases_lem}
use Rattle.passes.specs.Internal.Levels.{ReadyLevels, cage_of, with_levels}
use Rattle.refining.proofs.Relying.{relied, known}
use Rattle.refining.proofs.Refined.{whole, creased_done, tables_done, in_range, both_done, points_roomy, creases_roomy, refine_done}

module _ (t : HalfedgeTable) (c : Tables) (s : Sound t c) (depth : ℕ) (x : Tables) where
  -- one table: its levels f, of which the first has H cells
  first_there : (f : ℕ → List ℕ) (xs : List ℕ) → length (f 0) ≡ t.halfedges → take t.halfedges (drop 0 (in_front (end_to_end (suc depth) f) xs)) ≡ f 0
  first_there f xs e = rw (← e) (part_of f (suc depth) (in_front (end_to_end (suc depth) f) xs) (take-append_seam (end_to_end (suc depth) f) _) 0 (omega arith))

  pub cage_there : cage_of t (tables_in_front (levels_end_to_end t c depth) x) ≡ c
  unfolding tables_in_front levels_end_to_end level
  cage_there =
      λ i. tables
      (first_there (λ d. (level t c d).twin) x.twin s.twin_long i)
      (first_there (λ d. (level t c d).vert) x.vert s.vert_long i)
      (first_there (λ d. (level t c d).edge) x.edge s.edge_long i)

  pub cage_fits : t.halfedges ≤ length (tables_in_front (levels_end_to_end t c depth) x).vert
  unfolding tables_in_front levels_end_to_end level
  cage_fits =
      let f : ℕ → List ℕ = λ d. (level t c d).vert in
      let w = starts_within c.vert (in_front (end_to_end (suc depth) f) x.vert) (rw s.vert_long (first_there f x.vert s.vert_long)) in
      omega (arith, s.vert_long)

module _ (w : Weight) (c : Tables) (creases : List ℕ) (points : List ℤ) (depth : ℕ) (x : Tables) (xp : List ℤ) (xc : List ℕ) (e : refine_verdict w c creases points depth x xp xc ≡ DONE) where
  abbrev t : HalfedgeTable
  t = counts_of c (vertices points)

  -- 1 to 8, with 14 and 15, are done
  checked : first (refine_checks w c creases points depth) ≡ DONE
  checked = (both_done w c creases points depth x xp xc e).0

  tabled : first (table_checks c (vertices points) depth) ≡ DONE
  tabled = tables_done w c creases points depth checked

  creased : first (creased_table_checks c creases (vertices points) depth) ≡ DONE
  creased = creased_done w c creases points depth checked

  g : Granted c (vertices points) depth
  g = granted c (vertices points) depth tabled

  -- the points have whole triples
  threes : 3 * vertices points ≡ length points
  threes = omega (arith, whole w c creases points depth checked)

  points_there : take (3 * t.vertices) (in_front points xp) ≡ points
  points_there = rw threes (part-in_front points xp)

  -- the cage's points are part of the room
  cage_points_fit : length points ≤ 3 * room_v t depth
  unfolding counts_at
  cage_points_fit = let w : sum 1 (Vs t) ≤ room_v t depth = sum_grows (Vs t) 1 (suc depth) (omega arith) in omega (arith, threes)

  ready : ReadyLevels t depth (tables_in_front (levels_end_to_end t c depth) x) creases (in_front points xp)
  unfolding tables_in_front
  ready =
      record {
        counts = g.small;
        deep = g.shallow;
        cage_long = cage_fits t c g.sound depth x;
        twins = rw (cage_there t c g.sound depth x) (take-append_seam (levels_end_to_end t c depth).twin _);
        verts = rw (cage_there t c g.sound depth x) (take-append_seam (levels_end_to_end t c depth).vert _);
        edges = rw (cage_there t c g.sound depth x) (take-append_seam (levels_end_to_end t c depth).edge _);
        relied = λ d l. rw (cage_there t c g.sound depth x) (relied c (vertices points) depth tabled d (omega (arith, g.shallow)));
        known = λ d l.
            subst (λ q. Known (tabulate (vertices points) (λ u. length (corners q.vert u))) (level t q d).twin (level t q d).vert (Vs t d)) (sym (cage_there t c g.sound depth x))
            (known c (vertices points) depth tabled d (omega (arith, g.shallow)));
        numbered = as_long c creases (vertices points) depth creased;
        creased = λ d l.
            subst (λ q. KnownCreases (listed_after d q creases (vertices points)) (level t q d) (creases_at t creases d)) (sym (cage_there t c g.sound depth x))
            (known_creases_lem c creases (vertices points) depth creased d (omega (arith, g.shallow)));
        in_range = rw points_there (in_range w c creases points depth checked);
        room = rw (length-in_front points xp (omega (arith, cage_points_fit, points_roomy w c creases points depth x xp xc e))) (points_roomy w c creases points depth x xp xc e);
      }

  pub level_long : (d : ℕ) → length (level_points w t c creases points d) ≡ 3 * Vs t d
  level_long = level_points_long w t c creases points (sym threes)

  levels_over : with_levels w t depth (tables_in_front (levels_end_to_end t c depth) x) creases (in_front points xp) ≡ in_front (end_to_end (suc depth) (level_points w t c creases points)) xp
  unfolding with_levels
  levels_over =
      rw (cage_there t c g.sound depth x, points_there)
      (in_front_over points xp (end_to_end (suc depth) (level_points w t c creases points))
      (omega (arith, cage_points_fit, length_multiples 3 (level_points w t c creases points) (Vs t) (suc depth) (λ d l. level_long d))))

  -- the cage's points can be copied
  pub points_fit : length points ≤ length xp
  points_fit = omega (arith, cage_points_fit, points_roomy w c creases points depth x xp xc e)

  -- what is ready and the outcome, with the counts, tables, points and creases as the code has them
  module _ {u : HalfedgeTable} (p : u ≡ t) where
    pub writable : Writable u depth creases xc
    writable = rw p (record { long = as_long c creases (vertices points) depth creased; small = g.small; shallow = g.shallow; room = creases_roomy w c creases points depth x xp xc e })

    module _ {y : Tables} {z : List ℤ} (q : y ≡ tables_in_front (levels_end_to_end u c depth) x) (r : z ≡ in_front points xp) where
      pub readied : ReadyLevels u depth y creases z
      readied = rw (q, p, r) ready

      pub outcome :
          {k : Levels} {ps : List ℤ} {cs : List ℕ} → k ≡ levels u depth → ps ≡ with_levels w u depth y creases z → cs ≡ in_front (end_to_end (suc depth) (creases_at u creases)) xc
          → (record { verdict = DONE; values = k } ≡ (refine_cage w c creases points depth x xp xc).answer)
          × (y ≡ (refine_cage w c creases points depth x xp xc).lent)
          × (ps ≡ (refine_cage w c creases points depth x xp xc).points)
          × (cs ≡ (refine_cage w c creases points depth x xp xc).creases)
      outcome f k h =
          let d = refine_done w c creases points depth x xp xc e in
          let w : y ≡ tables_in_front (levels_end_to_end t c depth) x = rw p at q in
          (ap (λ m. record { verdict = DONE; values = m }) (rw p at f) ∙ sym g.counts ∙ d.0, w ∙ d.1, k ∙ rw (w, p, r) levels_over ∙ d.2, rw p at h ∙ d.3)
