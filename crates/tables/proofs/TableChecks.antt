-- Each outcome of checks 1 to 3 of the tables, by the tests that lead to it (`pairs_shape`, `pairs_limit`, `pairs_twins`), and what they
-- leave for the rules after them (`for_places`, `for_fans`); all checks in three parts, `in_parts`. A check's answer determines its result
-- (`checked-alike`). Assumes nothing.
use Prim.Native.Nat.{ℕ, ◌%◌, ◌≤◌}
use mathlib.Core.Path.{◌≡◌, refl, sym, ◌∙◌}
use mathlib.Core.Logic.{◌≢◌}
use mathlib.Core.Bool.{true, false, not}
use mathlib.Core.List.{[], ◌∷◌, ◌++◌}
use native.Mathlib.Omega.{arith}
use lib.Dec.{eqb}
use lib.ListN.{length, get_or, replicate}
use borrow.Author.Tests.{eq-eqb, ne_eqb}
use Rattle.std.specs.Prelude.{Result}
use Rattle.halfedges.specs.declared.refusal.Refusal.{Refusal}
use Rattle.halfedges.specs.Cage.{most_vertices}
use Rattle.halfedges.specs.Refusals.{DONE, SHAPE, LIMIT, TWIN, VERTEX, UNUSED, FAN, given, given_at, first}
use Rattle.halfedges.proofs.Checks.{is_passed, first_passed, given_alone, done_passes, done_nowhere}
use Rattle.halfedges.proofs.Questions.{limits_kept}
use Rattle.halfedges.proofs.Told.{answered-alike}
use Rattle.halfedges.specs.Counts.{above_limit}
use Rattle.tables.specs.declared.check.Checked.{Checked}
use Rattle.tables.specs.Tables.{Tables}
use Rattle.tables.specs.Rules.{misshapen, bad_twin, bad_vertex, unused}
use Rattle.tables.specs.Fans.{not_one_fan}
use Rattle.tables.specs.Internal.Relied.{ForPlaces, ForFans}
use Rattle.tables.specs.Check.{placing, rules, pairing, table_checks, numbers, checked}
use Rattle.tables.proofs.Meaning.{shaped, paired, placed, used}

module _ (c : Tables) (v depth : ℕ) where
  -- rule 1's last clause
  pub edge_length : length c.twin ≢ 0 → length c.twin % 3 ≡ 0 → length c.vert ≡ length c.twin → not (eqb (length c.edge) (length c.twin)) ≡ misshapen c
  unfolding misshapen
  edge_length n w l = rw (ne_eqb _ _ n, eq-eqb _ _ w, eq-eqb _ _ l)

  pub pairs_shape : misshapen c ≡ true → SHAPE ≡ first (pairing c v depth)
  unfolding first given
  pairs_shape s = simp s

  module _ (s : misshapen c ≡ false) where
    pub pairs_limit : above_limit (length c.twin) v depth ≡ true → LIMIT ≡ first (pairing c v depth)
    unfolding first given
    pairs_limit l = simp (s, l)

    pub pairs_twins : above_limit (length c.twin) v depth ≡ false → given_at (length c.twin) (bad_twin c.twin) TWIN ≡ first (pairing c v depth)
    pairs_twins l =
        given_alone (length c.twin) (bad_twin c.twin) TWIN (λ k. omega arith)
        ∙ sym (first_passed _ _ (is_passed (misshapen c) SHAPE s) ∙ first_passed _ _ (is_passed _ LIMIT l))

  -- what 1 to 3 leave for the rules after them
  pub for_places : first (pairing c v depth) ≡ DONE → ForPlaces c v
  for_places e =
      let one = done_passes (misshapen c) SHAPE _ refl e in
      let two = done_passes (above_limit (length c.twin) v depth) LIMIT _ refl one.1 in
      let three = done_nowhere (length c.twin) (bad_twin c.twin) TWIN [] (λ k. refl) two.1 in
      let l = limits_kept (length c.twin) v depth two.0 in
      record { shaped = shaped c one.0; paired = paired c.twin three.0; few = l.0; room = l.1 }

  -- 1 to 7 in their three parts
  pub in_parts : table_checks c v depth ≡ pairing c v depth ++ (placing c v ++ (given_at v (not_one_fan c.twin c.vert) FAN ∷ []))
  unfolding table_checks rules
  in_parts = refl

-- what 4 to 6 leave for rule 7
pub for_fans : (c : Tables) (v : ℕ) → ForPlaces c v → first (placing c v) ≡ DONE → ForFans c.twin c.vert v × (v ≤ most_vertices)
for_fans c v p e =
    let four = done_nowhere (length c.twin) (bad_vertex c.twin c.vert v) VERTEX _ (λ k. refl) e in
    let five = done_nowhere v (unused c.vert) UNUSED _ (λ k. refl) four.1 in (
      record {
        walkable = record { paired = p.paired; whole = p.shaped.whole; few = p.few };
        placed = placed _ _ _ four.0;
        used = used _ _ five.0;
        long = p.shaped.vert_long;
      },
      p.room,
    )

-- a promise determines the result: two told alike are the same
numbers-alike : (a b : Checked) → numbers a ≡ numbers b → a ≡ b
numbers-alike a b e =
    λ i. record {
      halfedges = get_or (e i) 0 0;
      edges = get_or (e i) 1 0;
      triangles = get_or (e i) 2 0;
      vertices = get_or (e i) 3 0;
      borders = get_or (e i) 4 0;
    }

pub checked-alike : (a b : Result Checked Refusal) → checked a ≡ checked b → a ≡ b
checked-alike = answered-alike numbers (replicate 5 0) numbers-alike
