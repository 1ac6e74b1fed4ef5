-- Every answer but those about files fits its cells: of the cage check (`check_fits`), saying why (`why_fits`), building (`build_fits`), the
-- count question (`counts_fit`), refining (`refine_fits`) and the corner question (`corners_fit`). Assumes nothing.
use Rattle.std.specs.Prelude.{Result}
use Prim.Native.Nat.{ℕ, suc, ◌≤◌, ◌<◌}
use mathlib.Core.Path.{◌≡◌, refl}
use mathlib.Core.Bool.{Bool, true, false, cond}
use mathlib.Core.List.{List, [], ◌∷◌}
use native.Mathlib.Omega.{arith}
use lib.Dec.{eqb, leb}
use lib.IntN.{ℤ}
use lib.ListN.{length}
use Rattle.laws.specs.Below.{tabulate, sum}
use Rattle.laws.proofs.Tests.{by-test}
use Rattle.laws.proofs.Tabulate.{length-tabulate}
use Rattle.laws.proofs.Sums.{sum_at_most}
use Rattle.laws.proofs.Counts.{count_at_most}
use Rattle.halfedges.specs.declared.table.HalfedgeTable.{HalfedgeTable}
use Rattle.halfedges.specs.declared.table.Levels.{Levels}
use Rattle.halfedges.specs.declared.refusal.Refusal.{Refusal}
use Rattle.halfedges.specs.Cage.{most_halfedges, most_vertices, most_depth, border, above, E, B}
use Rattle.halfedges.specs.Refusals.{Verdict, SHAPE, LIMIT, VERTEX, UNUSED, FAN, POINT, DOUBLED, when_done, first, Said, said}
use Rattle.halfedges.specs.Internal.Counts.{AtMost}
use Rattle.halfedges.specs.Counts.{counts_at, Hs, Es, Vs, seven, levels, no_levels, count_shape, above_limit, count_question, counted}
use Rattle.halfedges.specs.Corners.{corner_shape, corner_question, cornered}
use Rattle.halfedges.proofs.Checks.{first_zero, done_passes}
use Rattle.halfedges.proofs.Growth.{levels_at_most}
use Rattle.halfedges.proofs.Questions.{limits_kept, count_shape_lem, count_limit, count_done, within, corner_shape_lem, corner_done}
use Rattle.tables.specs.Tables.{Tables, counts_of}
use Rattle.tables.specs.Check.{returned}
use Rattle.points.specs.declared.weights.Weight.{Weight}
use Rattle.points.specs.Operations.{vertices, creased_checks, refine_checks, check_creased, refine_verdict, refine_cage}
use Rattle.why.specs.Why.{why_cage}
use Rattle.triangles.specs.Plain.{twin_table}
use Rattle.triangles.proofs.Opposite.{twins_long}
use Rattle.building.specs.Building.{build_checks, build_verdict, build_cage}
use Rattle.building.proofs.Outcome.{limits}
use Rattle.answers.specs.Cells.{cells, level_numbers, level_cells}
use Rattle.answers.specs.Internal.Fitting.{Fitting, Sevens}
use Rattle.answers.proofs.Verdicts.{short_small, creased_small, refine_checks_small, lent_small}
use Rattle.answers.proofs.Small.{Small, zeros_fit, fitting_both, fitting_tabulate, fitting_when, given_small, given_at_small, first_small, guarded_small, joined_small}

-- H, E, F, V and B within the limits
returned_fit : (twin : List ℕ) (v : ℕ) → length twin ≤ most_halfedges → v ≤ most_vertices → Fitting (returned twin v)
unfolding returned E B
returned_fit twin v l m =
    let e = count_at_most (length twin) (above twin) in
    let b = count_at_most (length twin) (border twin) in
    (omega arith, (omega arith, (omega arith, (omega arith, (omega arith, tt)))))

pub check_fits : (c : Tables) (creases : List ℕ) (points : List ℤ) → Fitting (cells (check_creased c creases points))
unfolding check_creased said creased_checks
check_fits c creases points =
    let s = creased_small c creases points 0 in (
      s.0,
      (
        s.1,
        fitting_when (first (creased_checks c creases points 0)) _ _
            (λ z.
            let shape = done_passes _ SHAPE _ refl (first_zero (creased_checks c creases points 0) z) in
            let k = limits_kept (length c.twin) (vertices points) 0 (done_passes _ LIMIT _ refl shape.1).0 in
            returned_fit c.twin (vertices points) k.0 k.1)
            zeros_fit,
      ),
    )

-- the check's own verdict
pub why_fits : (c : Tables) (creases : List ℕ) (points : List ℤ) → Fitting (cells (record { verdict = (why_cage c creases points).verdict; values = [] }))
unfolding why_cage check_creased said
why_fits c creases points = let s = creased_small c creases points 0 in (s.0, (s.1, tt))

-- building: the first of its checks before the room
build_checks_small : (vert : List ℕ) (points : List ℤ) → Small (first (build_checks vert points))
unfolding build_checks
build_checks_small vert points =
    guarded_small _ SHAPE _ refl (omega arith, omega arith)
    (λ _. guarded_small _ LIMIT _ refl (omega arith, omega arith)
    (λ l.
    let k = limits_kept (length vert) (vertices points) 0 l in
    first_small _ (
      given_at_small _ _ DOUBLED (λ h m. (omega arith, omega arith)),
      (
        given_at_small _ _ VERTEX (λ h m. (omega arith, omega arith)),
        (
          given_at_small _ _ UNUSED (λ v m. (omega arith, omega arith)),
          (
            given_at_small _ _ FAN (λ v m. (omega arith, omega arith)),
            (
              given_at_small _ _ POINT (λ i m. (omega arith, omega arith)),
              tt,
            ),
          ),
        ),
      ),
    )))

module _ (vert : List ℕ) (points : List ℤ) (x y : List ℕ) where
  build_small : Small (build_verdict vert points x y)
  unfolding build_verdict
  build_small = joined_small (build_checks vert points) _ (build_checks_small vert points) (λ _. first_small _ (short_small 1 _ _ (omega arith), (short_small 3 _ _ (omega arith), tt)))

  build_done : (build_verdict vert points x y).number ≡ 0 → Fitting (returned (twin_table vert) (vertices points))
  unfolding build_verdict
  build_done z = let k = limits vert points x y (first_zero _ z) in returned_fit (twin_table vert) (vertices points) (rw (twins_long vert) k.0) k.1

  pub build_fits : Fitting (cells (build_cage vert points x y).answer)
  unfolding build_cage said
  build_fits = (build_small.0, (build_small.1, fitting_when (build_verdict vert points x y) _ _ build_done zeros_fit))

-- counts of which there are seven, and which fit
record Laid (l : Levels) : Type 0 where
  sevens : Sevens l
  fitting : Fitting (level_numbers l)

laid : (l : Levels) → Sevens l → Fitting l.halfedges → Fitting l.edges → Fitting l.vertices → (l.halfedge_room < 4294967296) × (l.vertex_room < 4294967296) × (l.edge_room < 4294967296) → Laid l
laid l s h e v r =
    record {
      sevens = s;
      fitting = fitting_both l.halfedges _ h (fitting_both l.edges _ e (fitting_both l.vertices (l.halfedge_room ∷ l.vertex_room ∷ l.edge_room ∷ []) v (r.0, (r.1, (r.2, tt)))));
    }

laid_none : Laid no_levels
laid_none = laid no_levels (record { halfedges = refl; edges = refl; vertices = refl }) zeros zeros zeros (omega arith, omega arith, omega arith)
  where
    zeros : Fitting (tabulate 7 (λ _. 0))
    zeros = fitting_tabulate 7 (λ _. 0) (λ k l. omega arith)

seven_fit : (depth : ℕ) (f : ℕ → ℕ) → ((k : ℕ) → k < 7 → f k < 4294967296) → Fitting (seven depth f)
unfolding seven
seven_fit depth f l = fitting_tabulate 7 _ (λ k m. by (leb k depth) (l k m))
  where
    by : (b : Bool) {n : ℕ} → n < 4294967296 → cond b n 0 < 4294967296
    by true m = m
    by false m = omega arith

module _ (depth : ℕ) (f : ℕ → ℕ) where
  long : length (seven depth f) ≡ 7
  unfolding seven
  long = length-tabulate 7 (λ k. cond (leb k depth) (f k) 0)

  room_fits : ((k : ℕ) → k < 7 → f k ≤ 12582912) → depth ≤ most_depth → sum (suc depth) f < 4294967296
  room_fits l d = omega (arith, sum_at_most (suc depth) 12582912 f (λ k m. l k (omega arith)))

laid_levels : (t : HalfedgeTable) (depth : ℕ) → AtMost most_halfedges t → depth ≤ most_depth → Laid (levels t depth)
unfolding levels
laid_levels t depth a d =
    let at : (k : ℕ) → k < 7 → AtMost 12582912 (counts_at t k) = λ k l. levels_at_most most_halfedges 6 t a k (omega arith) in
    laid (levels t depth)
    (record { halfedges = long depth (Hs t); edges = long depth (Es t); vertices = long depth (Vs t) })
    (seven_fit depth (Hs t) (λ k l. omega (arith, (at k l).halfedges)))
    (seven_fit depth (Es t) (λ k l. omega (arith, (at k l).edges)))
    (seven_fit depth (Vs t) (λ k l. omega (arith, (at k l).vertices)))
    (room_fits depth (Hs t) (λ k l. (at k l).halfedges) d, room_fits depth (Vs t) (λ k l. (at k l).vertices) d, room_fits depth (Es t) (λ k l. (at k l).edges) d)

laid_count : (t : HalfedgeTable) (depth : ℕ) → Laid (count_question t depth).values
laid_count t depth =
    by-test (count_shape t) (λ s. rw (count_shape_lem t depth s) laid_none)
    (λ s. by-test (above_limit t.halfedges t.vertices depth) (λ l. rw (count_limit t depth s l) laid_none)
    (λ l. let w = within t depth s l in rw (count_done t depth s l) (laid_levels t depth w.0 w.1)))

laid_when : (v : Verdict) (l m : Levels) → Laid l → Laid m → Laid (when_done v l m)
laid_when v l m a b = by-test (eqb v.number 0) (λ e. rw e a) (λ e. rw e b)

-- an answer with counts whose verdict is small
pub record LevelsFit (s : Said Levels) : Type 0 where
  pub sevens : Sevens s.values
  pub fitting : Fitting (level_cells s)

levels_fit : (s : Said Levels) → Small s.verdict → Laid s.values → LevelsFit s
levels_fit s v l = record { sevens = l.sevens; fitting = (v.0, (v.1, l.fitting)) }

-- a result that tells an answer with counts whose verdict is small
pub levels-told : (r : Result Levels Refusal) (s : Said Levels) → counted r ≡ s → LevelsFit s → Sevens (counted r).values × Fitting (level_cells (counted r))
levels-told r s e f = let g : LevelsFit (counted r) = rw e f in (g.sevens, g.fitting)

pub counts_fit : (t : HalfedgeTable) (depth : ℕ) → LevelsFit (count_question t depth)
unfolding count_question said
counts_fit t depth =
    levels_fit (count_question t depth)
    (first_small _ (given_small (count_shape t) SHAPE (omega arith, omega arith), (given_small (above_limit t.halfedges t.vertices depth) LIMIT (omega arith, omega arith), tt)))
    (laid_count t depth)

module _ (w : Weight) (c : Tables) (creases : List ℕ) (points : List ℤ) (depth : ℕ) (x : Tables) (xp : List ℤ) (xc : List ℕ) where
  refine_small : Small (refine_verdict w c creases points depth x xp xc)
  unfolding refine_verdict
  refine_small = joined_small (refine_checks w c creases points depth) _ (refine_checks_small w c creases points depth) (λ _. lent_small (counts_of c (vertices points)) depth x xp xc)

  pub refine_fits : LevelsFit (refine_cage w c creases points depth x xp xc).answer
  unfolding refine_cage said
  refine_fits =
      levels_fit (refine_cage w c creases points depth x xp xc).answer refine_small
      (laid_when (refine_verdict w c creases points depth x xp xc) _ no_levels (laid_count (counts_of c (vertices points)) depth) laid_none)

-- SHAPE or done, and three corners
pub record CornersFit (s : Said (List ℕ)) : Type 0 where
  pub small : Small s.verdict
  pub corners : length s.values ≡ 3

pub corners_fit : (vert : List ℕ) (triangle : ℕ) → CornersFit (corner_question vert triangle)
corners_fit vert triangle =
    by-test (corner_shape vert triangle)
    (λ s. rw (corner_shape_lem vert triangle s) (record { small = (omega arith, omega arith); corners = refl }))
    (λ s. rw (corner_done vert triangle s) (record { small = (omega arith, omega arith); corners = refl }))

pub corners-told : (r : Result (List ℕ) Refusal) (s : Said (List ℕ)) → cornered r ≡ s → CornersFit s → Fitting (cells (record { verdict = (cornered r).verdict; values = [] })) × (length (cornered r).values ≡ 3)
corners-told r s e f = let g : CornersFit (cornered r) = rw e f in ((g.small.0, (g.small.1, tt)), g.corners)
