-- The checks with a crease table, in their parts (`in_parts`): the table's length (`length_stops`, `length_passes`), and what the checks
-- before it leave for rule 15 (`for_creases`). Assumes nothing.
use Prim.Native.Nat.{ℕ}
use mathlib.Core.Path.{◌≡◌, refl, sym, ◌∙◌}
use mathlib.Core.Logic.{◌≢◌}
use mathlib.Core.List.{List, [], ◌∷◌, ◌++◌}
use lib.ListN.{length}
use borrow.Author.Tests.{eq-eqb, ne_eqb}
use Rattle.halfedges.specs.Cage.{E}
use Rattle.halfedges.specs.Refusals.{Verdict, DONE, SHAPE, VERTEX, UNUSED, EDGE, FAN, given, given_at, first}
use Rattle.halfedges.proofs.Checks.{is_passed, first_passed, done_nowhere}
use Rattle.tables.specs.Tables.{Tables}
use Rattle.tables.specs.Rules.{bad_vertex, unused, bad_edge}
use Rattle.tables.specs.Fans.{not_one_fan}
use Rattle.tables.specs.Check.{placing, pairing}
use Rattle.tables.specs.Internal.Relied.{ForPlaces}
use Rattle.tables.proofs.Meaning.{numbered}
use Rattle.creases.specs.Creases.{misshapen_creases}
use Rattle.creases.specs.Check.{length_check, crease_check, creased_rules, creased_table_checks}
use Rattle.creases.specs.Internal.Borders.{ForCreases}

module _ (c : Tables) (creases : List ℕ) (v : ℕ) where
  -- what is left to check after 15, after 6, after the table's length, and after 3
  abbrev pub after15 : List Verdict
  after15 = given_at v (not_one_fan c.twin c.vert) FAN ∷ []

  abbrev pub after6 : List Verdict
  after6 = crease_check c creases ++ after15

  abbrev pub after_length : List Verdict
  after_length = placing c v ++ after6

  abbrev pub after3 : List Verdict
  after3 = length_check c creases ++ after_length

  pub in_parts : (depth : ℕ) → creased_table_checks c creases v depth ≡ pairing c v depth ++ after3
  unfolding creased_table_checks creased_rules
  in_parts depth = refl

  -- n is E, as the code counts it
  module _ {n : ℕ} (e : n ≡ E c.twin) where
    pub length_stops : length creases ≢ n → SHAPE ≡ first after3
    unfolding first given misshapen_creases
    length_stops d = simp (ne_eqb (length creases) (E c.twin) (λ q. d (q ∙ sym e)))

    pub length_passes : length creases ≡ n → first after_length ≡ first after3
    unfolding misshapen_creases
    length_passes q = sym (first_passed _ _ (is_passed _ SHAPE (rw (eq-eqb (length creases) (E c.twin) (q ∙ e)))))

    pub for_creases : length creases ≡ n → ForPlaces c v → first (placing c v) ≡ DONE → ForCreases c.twin c.edge creases
    for_creases q p d =
        let four = done_nowhere (length c.twin) (bad_vertex c.twin c.vert v) VERTEX _ (λ k. refl) d in
        let five = done_nowhere v (unused c.vert) UNUSED _ (λ k. refl) four.1 in
        let six = done_nowhere (length c.twin) (bad_edge c.twin c.edge (E c.twin)) EDGE [] (λ k. refl) five.1 in
        let r = numbered c.twin c.edge p.shaped.edge_long six.0 in
        record { few = p.few; same = p.shaped.edge_long; below = λ h l. r.below h (rw p.shaped.edge_long at l); long = q ∙ e }
