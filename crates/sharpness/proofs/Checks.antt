-- The checks with a crease table. They are done exactly where the plain ones are and the table passes 1 and 15: `checks_meaning` of rules 3
-- to 7, `tables_meaning` of 1 to 7. With all zeros they say what the plain ones do: `zeros_rules`, `zeros_checks`. The first of
-- two lists is by the first of each (`of_parts`). Assumes nothing.
use Prim.Native.Nat.{ℕ, ◌<◌}
use mathlib.Core.Path.{◌≡◌, refl, sym, ap, ◌∙◌}
use mathlib.Core.Logic.{◌↔◌}
use mathlib.Core.Bool.{false}
use mathlib.Core.List.{List, [], ◌∷◌, ◌++◌}
use native.Mathlib.Decide.{ℕ_discrete, dec_lt}
use native.Mathlib.Omega.{arith}
use lib.IntN.{ℤ}
use lib.ListN.{length, length-replicate, get_or-replicate}
use borrow.Author.Tests.{eq-eqb}
use Rattle.laws.proofs.Tests.{and_false}
use Rattle.halfedges.specs.Cage.{cell, E}
use Rattle.halfedges.specs.Refusals.{Verdict, DONE, SHAPE, CREASE, when_done, first}
use Rattle.halfedges.proofs.Checks.{is_passed, clean_done, none, also, all_passed_done, first_refused_before, first_zero, first_more, done_both, done_passes, done_nowhere}
use Rattle.tables.specs.Tables.{Tables}
use Rattle.tables.specs.Check.{rules_with, rules, table_checks}
use Rattle.creases.specs.Creases.{no_creases, misshapen_creases, edge_on_border, bad_crease}
use Rattle.creases.specs.Check.{length_check, crease_check, creased_rules, creased_table_checks}
use Rattle.creases.proofs.Table.{past}
use Rattle.points.specs.Operations.{cage_checks, creased_checks}

-- ---- lists of checks

-- a list's first is by that of what follows one check, and by those of its two parts
after_one : (v : Verdict) (ws xs : List Verdict) → first ws ≡ first xs → first (v ∷ ws) ≡ first (v ∷ xs)
unfolding first
after_one v ws xs e = ap (λ w. when_done v w v) e

pub of_parts : (vs us ws xs : List Verdict) → first vs ≡ first us → first ws ≡ first xs → first (vs ++ ws) ≡ first (us ++ xs)
of_parts vs us ws xs e d = by (ℕ_discrete (first us).number 0)
  where
    by : Dec ((first us).number ≡ 0) → first (vs ++ ws) ≡ first (us ++ xs)
    by (yes z) = first_more vs ws (e ∙ first_zero us z) ∙ d ∙ sym (first_more us xs (first_zero us z))
    by (no n) = first_refused_before ws vs (rw e n) ∙ e ∙ sym (first_refused_before xs us n)

done_after : (v : Verdict) (vs : List Verdict) → first (v ∷ vs) ≡ DONE → first vs ≡ DONE
done_after v vs e = (done_both (v ∷ []) vs e).1

-- more checks after 3 and after 6: where those are done they change nothing, and they are where all are
module _ (c : Tables) (v : ℕ) (after3 after6 : List Verdict) where
  more_same : first after3 ≡ DONE → first after6 ≡ DONE → first (rules_with after3 after6 c v) ≡ first (rules c v)
  unfolding rules
  more_same a b = after_one _ _ _ (first_more after3 _ a ∙ after_one _ _ _ (after_one _ _ _ (after_one _ _ _ (first_more after6 _ b))))

  more_done : first (rules_with after3 after6 c v) ≡ DONE → (first after3 ≡ DONE) × (first after6 ≡ DONE)
  more_done e =
      let (a, rest) = done_both after3 _ (done_after _ _ e) in
      (a, (done_both after6 _ (done_after _ _ (done_after _ _ (done_after _ _ rest)))).0)

-- ---- those of the crease table

-- the table passes 1 and 15
pub record Passing (c : Tables) (creases : List ℕ) : Type 0 where
  pub long : misshapen_creases c.twin creases ≡ false
  pub clean : (e : ℕ) → e < E c.twin → bad_crease c.twin c.edge creases e ≡ false

module _ {c : Tables} {creases : List ℕ} (p : Passing c creases) (v : ℕ) where
  pub passing_rules : first (creased_rules c creases v) ≡ first (rules c v)
  unfolding creased_rules
  passing_rules =
      more_same c v (length_check c creases) (crease_check c creases)
      (all_passed_done (also (is_passed _ SHAPE p.long) none))
      (all_passed_done (also (ap (λ w. w.number) (clean_done _ _ CREASE p.clean)) none))

  pub passing_tables : (depth : ℕ) → first (creased_table_checks c creases v depth) ≡ first (table_checks c v depth)
  unfolding creased_table_checks table_checks
  passing_tables depth = after_one _ _ _ (after_one _ _ _ passing_rules)

module _ (c : Tables) (creases : List ℕ) (v : ℕ) where
  rules_passing : first (creased_rules c creases v) ≡ DONE → Passing c creases
  unfolding creased_rules
  rules_passing e =
      let (a, b) = more_done c v (length_check c creases) (crease_check c creases) e in
      record { long = (done_passes _ SHAPE [] refl a).0; clean = (done_nowhere _ _ CREASE [] (λ k. refl) b).0 }

  pub checks_meaning : (first (creased_rules c creases v) ≡ DONE) ↔ ((first (rules c v) ≡ DONE) × Passing c creases)
  checks_meaning = (λ e. let p = rules_passing e in (sym (passing_rules p v) ∙ e, p), λ q. passing_rules q.1 v ∙ q.0)

  pub tables_meaning : (depth : ℕ) → (first (creased_table_checks c creases v depth) ≡ DONE) ↔ ((first (table_checks c v depth) ≡ DONE) × Passing c creases)
  unfolding creased_table_checks
  tables_meaning depth =
      (λ e. let p = rules_passing (done_after _ _ (done_after _ _ e)) in (sym (passing_tables p v depth) ∙ e, p), λ q. passing_tables q.1 v depth ∙ q.0)

-- ---- all zeros

module _ (c : Tables) where
  pub zero_each : (e : ℕ) → cell (no_creases c.twin) e ≡ 0
  zero_each e = by (dec_lt e (E c.twin))
    where
      by : Dec (e < E c.twin) → cell (no_creases c.twin) e ≡ 0
      by (yes l) = get_or-replicate {A = ℕ} (E c.twin) e 0 0 l
      by (no l) = past (no_creases c.twin) e (rw (length-replicate {A = ℕ} (E c.twin) 0) (omega (arith, l)))

  zeros_pass : Passing c (no_creases c.twin)
  unfolding misshapen_creases bad_crease
  zeros_pass =
      record {
        long = rw (eq-eqb (length (no_creases c.twin)) (E c.twin) (length-replicate {A = ℕ} (E c.twin) 0));
        clean = λ e l. rw (zero_each e) (and_false (edge_on_border c.twin c.edge e));
      }

  pub zeros_rules : (v : ℕ) → first (creased_rules c (no_creases c.twin) v) ≡ first (rules c v)
  zeros_rules v = passing_rules zeros_pass v

  pub zeros_checks : (points : List ℤ) (depth : ℕ) → first (creased_checks c (no_creases c.twin) points depth) ≡ first (cage_checks c points depth)
  unfolding creased_checks cage_checks
  zeros_checks points depth = after_one _ _ _ (after_one _ _ _ (of_parts _ _ _ _ (zeros_rules _) refl))
