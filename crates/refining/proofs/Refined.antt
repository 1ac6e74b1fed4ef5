-- What a cage has where checks 1 to 8, 14 and 15 are done (`whole`, `creased_done`, `tables_done`, `valences_done`, `in_range`,
-- `counts_granted`); the verdict of refining, as the code goes (`tables-short`, `points_short`, `creases_short`,
-- `all_roomy`); what it leaves where it is done (`both_done`, `all_refinable`, `points_roomy`, `creases_roomy`); and the outcome
-- (`refine_refused`, `refine_done`). Assumes nothing.
use Prim.Native.Nat.{ℕ, suc, ◌*◌, ◌%◌, ◌≤◌, ◌<◌}
use mathlib.Core.Path.{◌≡◌, refl, sym, ap, ◌∙◌}
use mathlib.Core.List.{List, [], ◌∷◌}
use native.Mathlib.Omega.{arith}
use lib.Dec.{ltb}
use lib.IntN.{ℤ}
use lib.ListN.{length}
use borrow.Author.Tests.{eqb-true, ltb-false, not-false, ne_eqb, lt-ltb, le-ltb}
use Rattle.laws.specs.Below.{end_to_end}
use Rattle.laws.specs.Parts.{in_front}
use Rattle.laws.proofs.Tests.{or_false}
use Rattle.laws.proofs.Sums.{sum_at_most}
use Rattle.halfedges.specs.declared.table.HalfedgeTable.{HalfedgeTable}
use Rattle.halfedges.specs.declared.table.Levels.{Levels}
use Rattle.halfedges.specs.Cage.{most_halfedges, most_depth}
use Rattle.halfedges.specs.declared.refusal.Refusal.{Refusal}
use Rattle.halfedges.specs.Refusals.{Verdict, DONE, SHAPE, POINT, ROOM, refused, given, given_at, short, first, said, filled}
use Rattle.halfedges.specs.Internal.Counts.{AtMost, refused_count}
use Rattle.halfedges.specs.Counts.{Vs, room_h, room_v, room_e, levels, count_question}
use Rattle.halfedges.proofs.Growth.{levels_at_most}
use Rattle.halfedges.proofs.Checks.{first_more, stops_before, done_both, done_passes, done_nowhere}
use Rattle.halfedges.proofs.Told.{refused_number}
use Rattle.tables.specs.Tables.{Tables, counts_of}
use Rattle.tables.specs.Rules.{misshapen}
use Rattle.levels.specs.Internal.Filling.{tables_in_front, Refinable}
use Rattle.tables.specs.Check.{table_checks}
use Rattle.levels.specs.Refining.{short_tables, filled_tables, levels_end_to_end}
use Rattle.levels.proofs.Granted.{granted, refinable}
use Rattle.creases.specs.Creases.{creases_at}
use Rattle.creases.specs.Check.{creased_rules, creased_table_checks}
use Rattle.creases.proofs.Accepted.{plain_done}
use Rattle.points.specs.declared.weights.Weight.{Weight}
use Rattle.points.specs.NextPoints.{level_points}
use Rattle.points.specs.Operations.{vertices, out_of_range, valence_checks, refine_checks, short_lent, refine_verdict, refine_cage, InRange}
use Rattle.cage.proofs.CageChecks.{checks_then_lem}

module _ (w : Weight) (c : Tables) (creases : List ℕ) (points : List ℤ) (depth : ℕ) (e : first (refine_checks w c creases points depth) ≡ DONE) where
  pub whole : length points % 3 ≡ 0
  unfolding refine_checks
  whole = eqb-true _ _ (not-false _ (or_false (misshapen c) _ (done_passes _ SHAPE _ refl e).0).1)

  parts :
      (first (creased_table_checks c creases (vertices points) depth) ≡ DONE)
      × (first (valence_checks w c.twin c.vert (vertices points)) ≡ DONE)
      × (first (given_at (length points) (out_of_range points) POINT ∷ []) ≡ DONE)
  unfolding refine_checks creased_table_checks
  parts =
      let p = done_both _ _ (rw (checks_then_lem (creased_rules c creases (vertices points)) (valence_checks w c.twin c.vert (vertices points)) c points depth whole) at e) in
      let q = done_both _ _ p.1 in
      (p.0, q.0, q.1)

  pub creased_done : first (creased_table_checks c creases (vertices points) depth) ≡ DONE
  creased_done = parts.0

  pub tables_done : first (table_checks c (vertices points) depth) ≡ DONE
  tables_done = plain_done c creases (vertices points) depth creased_done

  pub valences_done : first (valence_checks w c.twin c.vert (vertices points)) ≡ DONE
  valences_done = parts.1

  pub in_range : InRange points
  unfolding out_of_range
  in_range i l = ltb-false _ _ ((done_nowhere (length points) (out_of_range points) POINT [] (λ k. refl) parts.2).0 i l)

-- the vertices of seven levels are no large number
pub few_vertices : (t : HalfedgeTable) (depth : ℕ) {l : Levels} → AtMost most_halfedges t × depth ≤ most_depth → l ≡ levels t depth → l.vertex_room ≤ 88080384
unfolding levels
few_vertices t depth a e =
    rw e (omega (arith, sum_at_most (suc depth) 12582912 (Vs t) (λ d m. let b = levels_at_most most_halfedges 6 t a.0 d (omega (arith, a.1)) in omega (arith, b.vertices))))

-- what then holds of the counts
pub counts_granted : (w : Weight) (c : Tables) (creases : List ℕ) (points : List ℤ) (depth : ℕ) → first (refine_checks w c creases points depth) ≡ DONE → {u : HalfedgeTable} → u ≡ counts_of c (vertices points) → AtMost most_halfedges u × depth ≤ most_depth
counts_granted w c creases points depth d p = let g = granted c (vertices points) depth (tables_done w c creases points depth d) in rw p (g.small, g.shallow)

module _ (w : Weight) (c : Tables) (creases : List ℕ) (points : List ℤ) (depth : ℕ) (x : Tables) (xp : List ℤ) (xc : List ℕ) where
  abbrev rooms : List Verdict
  rooms = short_tables (room_h (counts_of c (vertices points)) depth) x

  abbrev last : List Verdict
  last = short 4 (3 * room_v (counts_of c (vertices points)) depth) (length xp) ∷ short 7 (room_e (counts_of c (vertices points)) depth) (length xc) ∷ []

  -- where 1 to 8 pass, the first short table of the three, with the counts as the code has them
  module _ (d : first (refine_checks w c creases points depth) ≡ DONE) {u : HalfedgeTable} (p : u ≡ counts_of c (vertices points)) where
    pub tables-short : (r : Refusal) → refused r ≡ first (short_tables (room_h u depth) x) → refused r ≡ refine_verdict w c creases points depth x xp xc
    unfolding refine_verdict short_lent
    tables-short r e = stops_before rooms last r (rw p at e) ∙ sym (first_more (refine_checks w c creases points depth) _ d)

    module _ (z : DONE ≡ first (short_tables (room_h u depth) x)) {l : Levels} (q : l ≡ levels u depth) where
      room_left : first last ≡ refine_verdict w c creases points depth x xp xc
      unfolding refine_verdict short_lent
      room_left = sym (first_more (refine_checks w c creases points depth) _ d ∙ first_more rooms last (sym (rw p at z)))

      point_room : l.vertex_room ≡ room_v (counts_of c (vertices points)) depth
      unfolding levels
      point_room = ap (λ (k : Levels). k.vertex_room) q ∙ ap (λ (t : HalfedgeTable). room_v t depth) p

      crease_room : l.edge_room ≡ room_e (counts_of c (vertices points)) depth
      unfolding levels
      crease_room = ap (λ (k : Levels). k.edge_room) q ∙ ap (λ (t : HalfedgeTable). room_e t depth) p

      pub points_short : length xp < 3 * l.vertex_room → ROOM 4 ≡ refine_verdict w c creases points depth x xp xc
      unfolding short given first
      points_short w = rw (lt-ltb (length xp) (3 * room_v (counts_of c (vertices points)) depth) (rw point_room at w)) at room_left

      module _ (enough : 3 * l.vertex_room ≤ length xp) where
        creases_left : first (short 7 (room_e (counts_of c (vertices points)) depth) (length xc) ∷ []) ≡ refine_verdict w c creases points depth x xp xc
        unfolding short given first
        creases_left = rw (le-ltb (length xp) (3 * room_v (counts_of c (vertices points)) depth) (rw point_room at enough)) at room_left

        pub creases_short : length xc < l.edge_room → ROOM 7 ≡ refine_verdict w c creases points depth x xp xc
        unfolding short given first
        creases_short w = rw (lt-ltb (length xc) (room_e (counts_of c (vertices points)) depth) (rw crease_room at w)) at creases_left

        pub all_roomy : l.edge_room ≤ length xc → DONE ≡ refine_verdict w c creases points depth x xp xc
        unfolding short given first
        all_roomy w = rw (le-ltb (length xc) (room_e (counts_of c (vertices points)) depth) (rw crease_room at w)) at creases_left

  module _ (e : refine_verdict w c creases points depth x xp xc ≡ DONE) where
    pub both_done : (first (refine_checks w c creases points depth) ≡ DONE) × (first rooms ≡ DONE) × (first last ≡ DONE)
    unfolding refine_verdict short_lent
    both_done = let p = done_both (refine_checks w c creases points depth) _ e in let q = done_both rooms last p.1 in (p.0, q.0, q.1)

    -- the tables can be filled in
    pub all_refinable : {u : HalfedgeTable} → u ≡ counts_of c (vertices points) → Refinable u depth c x
    unfolding short_tables short
    all_refinable p =
        let g = granted c (vertices points) depth (tables_done w c creases points depth both_done.0) in
        let t = done_passes _ (ROOM 1) _ refl both_done.1 in
        let v = done_passes _ (ROOM 2) _ refl t.1 in
        let w = done_passes _ (ROOM 3) _ refl v.1 in
        rw p (refinable g (ltb-false _ _ t.0, ltb-false _ _ v.0, ltb-false _ _ w.0))

    pub points_roomy : 3 * room_v (counts_of c (vertices points)) depth ≤ length xp
    unfolding short
    points_roomy = ltb-false _ _ (done_passes _ (ROOM 4) _ refl both_done.2).0

    pub creases_roomy : room_e (counts_of c (vertices points)) depth ≤ length xc
    unfolding short
    creases_roomy =
        let rest = (done_passes (ltb (length xp) (3 * room_v (counts_of c (vertices points)) depth)) (ROOM 4) _ refl both_done.2).1 in
        ltb-false _ _ (done_passes (ltb (length xc) (room_e (counts_of c (vertices points)) depth)) (ROOM 7) [] refl rest).0

    pub refine_done :
        (count_question (counts_of c (vertices points)) depth ≡ (refine_cage w c creases points depth x xp xc).answer)
        × (tables_in_front (levels_end_to_end (counts_of c (vertices points)) c depth) x ≡ (refine_cage w c creases points depth x xp xc).lent)
        × (in_front (end_to_end (suc depth) (level_points w (counts_of c (vertices points)) c creases points)) xp ≡ (refine_cage w c creases points depth x xp xc).points)
        × (in_front (end_to_end (suc depth) (creases_at (counts_of c (vertices points)) creases)) xc ≡ (refine_cage w c creases points depth x xp xc).creases)
    unfolding refine_cage said filled_tables filled tables_in_front
    refine_done = rw (e, (granted c (vertices points) depth (tables_done w c creases points depth both_done.0)).counts) (refl, refl, refl, refl)

  -- a refusal tells the verdict
  pub refine_refused :
      (r : Refusal)
      → refused r ≡ refine_verdict w c creases points depth x xp xc
      → (refused_count (refused r) ≡ (refine_cage w c creases points depth x xp xc).answer)
      × (x ≡ (refine_cage w c creases points depth x xp xc).lent)
      × (xp ≡ (refine_cage w c creases points depth x xp xc).points)
      × (xc ≡ (refine_cage w c creases points depth x xp xc).creases)
  unfolding refine_cage said filled_tables filled
  refine_refused r e = rw (← e, ne_eqb (refused r).number 0 (refused_number r)) (refl, refl, refl, refl)
