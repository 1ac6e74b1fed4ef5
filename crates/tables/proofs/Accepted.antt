-- The check's meaning. Tables of right shape pass rules 3 to 7 exactly when the plain record of the rules holds:
-- `meaning`, or one way each `ruled` and `rules_done`. Any tables pass 1 to 7 exactly when they have the right shape,
-- are within the limits and the record holds: `whole_meaning`. Assumes nothing.
use Prim.Native.Nat.{ℕ}
use mathlib.Core.Path.{◌≡◌, ap}
use mathlib.Core.Logic.{◌↔◌}
use mathlib.Core.Bool.{Bool, false}
use native.Mathlib.Omega.{arith}
use lib.ListN.{length}
use Rattle.halfedges.specs.Refusals.{Verdict, DONE, SHAPE, LIMIT, TWIN, VERTEX, UNUSED, EDGE, FAN, given_at, first}
use Rattle.halfedges.specs.Counts.{above_limit}
use Rattle.halfedges.proofs.Checks.{is_passed, not_given, Clean, clean_done, passed_clean, AllPassed, none, also, passed_all, all_passed_done}
use Rattle.tables.specs.Tables.{Tables}
use Rattle.tables.specs.Ruled.{Shaped, Ruled}
use Rattle.tables.specs.Check.{rules, table_checks}
use Rattle.tables.proofs.Meaning.{shaped, well_shaped, paired, clean_twins, placed, clean_vertices, used, clean_uses, numbered, clean_edges}
use Rattle.tables.proofs.Fanned.{fanned, clean_fans}

module _ (c : Tables) (v : ℕ) (s : Shaped c) where
  pub ruled : (first (rules c v)).number ≡ 0 → Ruled c v
  unfolding rules
  ruled e = by (passed_all _ e)
    where
      by : AllPassed (rules c v) → Ruled c v
      by (also a (also b (also u (also d (also f none))))) =
          let twins = paired c.twin (passed_clean _ _ TWIN (λ k. omega arith) a) in
          let places = placed c.twin c.vert v (passed_clean _ _ VERTEX (λ k. omega arith) b) in
          record {
            paired = twins;
            placed = places;
            used = used c.vert v (passed_clean _ _ UNUSED (λ k. omega arith) u);
            numbered = numbered c.twin c.edge s.edge_long (passed_clean _ _ EDGE (λ k. omega arith) d);
            fanned = fanned c.twin c.vert v s.whole s.vert_long twins places (passed_clean _ _ FAN (λ k. omega arith) f);
          }

  passed : (n : ℕ) (bad : ℕ → Bool) (at : ℕ → Verdict) → Clean n bad → (given_at n bad at).number ≡ 0
  passed n bad at f = ap (λ w. w.number) (clean_done n bad at f)

  rules_passed : Ruled c v → AllPassed (rules c v)
  unfolding rules
  rules_passed r =
      also (passed _ _ TWIN (clean_twins c.twin r.paired))
      (also (passed _ _ VERTEX (clean_vertices c.twin c.vert v r.placed))
      (also (passed _ _ UNUSED (clean_uses c.vert v r.used))
      (also (passed _ _ EDGE (clean_edges c.twin c.edge s.edge_long r.numbered))
      (also (passed _ _ FAN (clean_fans c.twin c.vert v s.whole s.vert_long r.paired r.fanned)) none))))

  pub rules_done : Ruled c v → first (rules c v) ≡ DONE
  rules_done r = all_passed_done (rules_passed r)

  pub meaning : (first (rules c v) ≡ DONE) ↔ Ruled c v
  meaning = (λ e. ruled (ap (λ w. w.number) e), rules_done)

module _ (c : Tables) (v depth : ℕ) where
  pub whole_meaning : (first (table_checks c v depth) ≡ DONE) ↔ (Shaped c × (above_limit (length c.twin) v depth ≡ false) × Ruled c v)
  unfolding table_checks
  whole_meaning = (λ e. parts (passed_all _ (ap (λ w. w.number) e)), λ p. all_passed_done (whole p.0 p.1 p.2))
    where
      parts : AllPassed (table_checks c v depth) → Shaped c × (above_limit (length c.twin) v depth ≡ false) × Ruled c v
      parts (also a (also b rest)) =
          let s = shaped c (not_given _ SHAPE (omega arith) a) in
          (s, not_given _ LIMIT (omega arith) b, ruled c v s (ap (λ w. w.number) (all_passed_done rest)))

      whole : Shaped c → above_limit (length c.twin) v depth ≡ false → Ruled c v → AllPassed (table_checks c v depth)
      whole s l r = also (is_passed _ SHAPE (well_shaped c s)) (also (is_passed _ LIMIT l) (rules_passed c v s r))
