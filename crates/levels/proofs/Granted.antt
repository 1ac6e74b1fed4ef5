-- What 1 to 7 leave of a cage and a depth where they pass: `granted`, and of the counts as the code has them `checks_granted`; what the
-- verdict of refining the tables leaves of these and of the lent tables: `all_granted`, `all_refinable`; and the outcome:
-- `refine_refused`, `refine_done`. Assumes nothing.
use Prim.Native.Nat.{ℕ, ◌≤◌}
use mathlib.Core.Path.{◌≡◌, refl, sym, ap}
use mathlib.Core.List.{List}
use native.Mathlib.Omega.{arith}
use lib.Dec.{ltb}
use lib.ListN.{length}
use borrow.Author.Tests.{ltb-false, ne_eqb}
use Rattle.laws.proofs.Counts.{count_at_most}
use Rattle.halfedges.specs.Cage.{most_halfedges, most_depth, above, E}
use Rattle.halfedges.specs.declared.refusal.Refusal.{Refusal}
use Rattle.halfedges.specs.declared.table.HalfedgeTable.{HalfedgeTable}
use Rattle.halfedges.specs.declared.table.Levels.{Levels}
use Rattle.halfedges.specs.Refusals.{Verdict, DONE, ROOM, refused, short, first, said, filled}
use Rattle.halfedges.specs.Internal.Counts.{AtMost, refused_count}
use Rattle.halfedges.specs.Counts.{room_h, levels, count_question}
use Rattle.halfedges.proofs.Checks.{not_given, AllPassed, none, also, passed_all, done_both}
use Rattle.halfedges.proofs.Told.{refused_number}
use Rattle.halfedges.proofs.Questions.{limits_kept, within, count_done}
use Rattle.tables.specs.Tables.{Tables, counts_of}
use Rattle.splitting.specs.Internal.InPlace.{Sound}
use Rattle.levels.specs.Internal.Filling.{tables_in_front, Refinable}
use Rattle.tables.specs.Check.{table_checks}
use Rattle.levels.specs.Refining.{short_tables, filled_tables, levels_end_to_end, refine_tables_verdict, refine_tables}
use Rattle.tables.proofs.Accepted.{whole_meaning}
use Rattle.tables.proofs.EdgeCount.{count_shaped}

-- a cage that passes 1 to 7 with a depth
pub record Granted (c : Tables) (v depth : ℕ) : Type 0 where
  pub sound : Sound (counts_of c v) c
  pub small : AtMost most_halfedges (counts_of c v)
  pub shallow : depth ≤ most_depth
  pub counts : count_question (counts_of c v) depth ≡ record { verdict = DONE; values = levels (counts_of c v) depth }

pub granted : (c : Tables) (v depth : ℕ) → first (table_checks c v depth) ≡ DONE → Granted c v depth
unfolding E
granted c v depth e =
    let m = (whole_meaning c v depth).0 e in
    let s = m.0 in
    let r = m.2 in
    let l = limits_kept (length c.twin) v depth m.1 in
    let shape = count_shaped c v s r (omega arith) in
    let w = within (counts_of c v) depth shape m.1 in
    record {
      sound = record {
        twin_long = refl;
        vert_long = s.vert_long;
        edge_long = s.edge_long;
        whole = s.whole;
        few_edges = count_at_most (length c.twin) (above c.twin);
        twin_below = r.paired.below;
        edge_below = r.numbered.below;
      };
      small = w.0;
      shallow = w.1;
      counts = count_done (counts_of c v) depth shape m.1;
    }

-- the lent tables have room for its levels
pub refinable : {c x : Tables} {v depth : ℕ} → Granted c v depth → (room_h (counts_of c v) depth ≤ length x.twin) × (room_h (counts_of c v) depth ≤ length x.vert) × (room_h (counts_of c v) depth ≤ length x.edge) → Refinable (counts_of c v) depth c x
refinable g r = record { sound = g.sound; small = g.small; shallow = g.shallow; twin_room = r.0; vert_room = r.1; edge_room = r.2 }

-- a lent table that is not short
long_enough : (table room n : ℕ) → (short table room n).number ≡ 0 → room ≤ n
unfolding short
long_enough table room n e = ltb-false n room (not_given (ltb n room) (ROOM table) (omega arith) e)

-- where 1 to 7 pass, with the counts as the code has them
pub checks_granted : (c : Tables) (v depth : ℕ) → DONE ≡ first (table_checks c v depth) → {u : HalfedgeTable} → u ≡ counts_of c v → AtMost most_halfedges u × (depth ≤ most_depth)
checks_granted c v depth e p = let g = granted c v depth (sym e) in rw p (g.small, g.shallow)

module _ (c : Tables) (v depth : ℕ) (x : Tables) where
  abbrev rooms : List Verdict
  rooms = short_tables (room_h (counts_of c v) depth) x

  -- where the verdict is done, with the counts as the code has them: the lent tables can be filled in, and the outcome
  module _ (e : DONE ≡ refine_tables_verdict c v depth x) {u : HalfedgeTable} (p : u ≡ counts_of c v) where
    both : (first (table_checks c v depth) ≡ DONE) × (first rooms ≡ DONE)
    unfolding refine_tables_verdict
    both = done_both (table_checks c v depth) rooms (sym e)

    pub all_granted : AtMost most_halfedges u × (depth ≤ most_depth)
    all_granted = checks_granted c v depth (sym both.0) p

    pub all_refinable : Refinable u depth c x
    unfolding short_tables
    all_refinable = rw p (refinable (granted c v depth both.0) (by (passed_all rooms (ap (λ w. w.number) both.1))))
      where
        by : AllPassed rooms → (room_h (counts_of c v) depth ≤ length x.twin) × (room_h (counts_of c v) depth ≤ length x.vert) × (room_h (counts_of c v) depth ≤ length x.edge)
        by (also t (also w (also d none))) = (long_enough 1 _ _ t, long_enough 2 _ _ w, long_enough 3 _ _ d)

    pub refine_done : {k : Levels} {y : Tables} → k ≡ levels u depth → y ≡ tables_in_front (levels_end_to_end u c depth) x
        → (record { verdict = DONE; values = k } ≡ (refine_tables c v depth x).answer) × (y ≡ (refine_tables c v depth x).lent)
    unfolding refine_tables said filled_tables filled tables_in_front
    refine_done q r = rw (q, r, p, ← e, (granted c v depth both.0).counts) (refl, refl)

  pub refine_refused : (r : Refusal) → refused r ≡ refine_tables_verdict c v depth x → (refused_count (refused r) ≡ (refine_tables c v depth x).answer) × (x ≡ (refine_tables c v depth x).lent)
  unfolding refine_tables said filled_tables filled
  refine_refused r e = rw (← e, ne_eqb (refused r).number 0 (refused_number r)) (refl, refl)
