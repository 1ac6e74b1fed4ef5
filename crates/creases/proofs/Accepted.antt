-- Where the checks with creases are done, those without are (`plain_done`), and the table has a number for each edge (`as_long`).
-- Assumes nothing.
use Prim.Native.Nat.{ℕ}
use mathlib.Core.Path.{◌≡◌, refl, ◌∙◌}
use mathlib.Core.List.{List}
use lib.ListN.{length}
use borrow.Author.Tests.{eqb-true, not-false}
use Rattle.halfedges.specs.Cage.{E}
use Rattle.halfedges.specs.Refusals.{DONE, SHAPE, first}
use Rattle.halfedges.proofs.Checks.{first_more, done_both, done_passes}
use Rattle.tables.specs.Tables.{Tables}
use Rattle.tables.specs.Check.{placing, rules, pairing, table_checks}
use Rattle.creases.specs.Creases.{misshapen_creases}
use Rattle.creases.specs.Check.{length_check, crease_check, creased_rules, creased_table_checks}

module _ (c : Tables) (creases : List ℕ) (v depth : ℕ) (e : first (creased_table_checks c creases v depth) ≡ DONE) where
  pub plain_done : first (table_checks c v depth) ≡ DONE
  unfolding creased_table_checks creased_rules table_checks rules
  plain_done =
      let pairs = done_both (pairing c v depth) _ e in
      let long = done_both (length_check c creases) _ pairs.1 in
      let placed = done_both (placing c v) _ long.1 in
      let numbers = done_both (crease_check c creases) _ placed.1 in
      first_more (pairing c v depth) _ pairs.0 ∙ first_more (placing c v) _ placed.0 ∙ numbers.1

  pub as_long : length creases ≡ E c.twin
  unfolding creased_table_checks creased_rules misshapen_creases
  as_long =
      let pairs = done_both (pairing c v depth) _ e in
      eqb-true _ _ (not-false _ (done_passes (misshapen_creases c.twin creases) SHAPE _ refl pairs.1).0)
