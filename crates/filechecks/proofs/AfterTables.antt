-- The file's checks once the first payload has passed: a table's field that does not pass is the answer (`tables_stop`), and after them
-- comes what the form has (`left_one`, `left_two`; `plain_left_lem`, `creased_left_lem`). Where they pass the tables are whole (`tables_whole`). Assumes nothing.
use Prim.Native.Nat.{ℕ, ◌+◌, ◌*◌, ◌≤◌}
use mathlib.Core.Path.{◌≡◌}
use mathlib.Core.List.{List, [], ◌∷◌, ◌++◌}
use native.Mathlib.Omega.{arith}
use lib.ListN.{length}
use Rattle.halfedges.specs.Cage.{E}
use Rattle.halfedges.specs.declared.refusal.Refusal.{Refusal}
use Rattle.halfedges.specs.Refusals.{Verdict, DONE, refused, first}
use Rattle.halfedges.proofs.Checks.{done_both, stops_before, passes_before}
use Rattle.cagefile.specs.declared.fields.Form.{Form}
use Rattle.cagefile.specs.declared.fields.Form.TheVariants.{One, Two}
use Rattle.cagefile.specs.Fields.{opening, table_heads, later_heads, heads}
use Rattle.filechecks.specs.Contents.{HIn, VIn, edges_for, form_of, twins_in, heads_in, past}
use Rattle.filechecks.specs.FileChecks.{field_checks, nothing, twins_asked, weight_asked, later_asked, fields_checks, front_to_back}
use Rattle.filechecks.specs.Internal.Sound.{front_checks}
use Rattle.filechecks.proofs.FieldLaws.{field_at}
use Rattle.filechecks.proofs.FrontToBack.{tables_alone, tables-asked}

pub tables_whole : (f : List ℕ) (H : ℕ) → first (front_checks f (past 0 opening) (table_heads H)) ≡ DONE → 18 + 6 * H ≤ length f
unfolding table_heads front_checks
tables_whole f H e =
    let vert = (done_both (field_checks f (past 0 opening) (record { tag = 0x20; size = 2 * H })) _ e).1 in
    let edge = (done_both (field_checks f (12 + 2 * H) (record { tag = 0x21; size = 2 * H })) _ vert).1 in
    omega (arith, (field_at f (12 + 2 * H + 3 + 2 * H) (record { tag = 0x22; size = 2 * H }) (done_both (field_checks f (12 + 2 * H + 3 + 2 * H) (record { tag = 0x22; size = 2 * H })) [] edge).0).whole)

-- what is left of the checks of a file of a form
module _ (f : List ℕ) where
  abbrev pub left : Form → List Verdict
  left form = front_to_back f (past 0 opening) (later_asked form f) (heads form (HIn f) (edges_for form (twins_in f)) (VIn f))

  abbrev pub tables : List Verdict
  tables = front_checks f (past 0 opening) (table_heads (HIn f))

  abbrev pub plain_left : List Verdict
  plain_left = fields_checks f (18 + 6 * HIn f) (later_heads One 0 (VIn f))

  abbrev pub creased_left : List Verdict
  creased_left = twins_asked f 0 ++ front_to_back f (18 + 6 * HIn f) (nothing ∷ nothing ∷ weight_asked f ∷ []) (later_heads Two (E (twins_in f)) (VIn f))

  pub left_one : left One ≡ tables ++ plain_left
  unfolding front_to_back later_heads
  left_one = tables_alone f (HIn f) (later_heads One 0 (VIn f))

  pub left_two : left Two ≡ tables ++ creased_left
  unfolding twins_asked
  left_two = tables-asked f (HIn f) (later_heads Two (E (twins_in f)) (VIn f)) (twins_asked f) (nothing ∷ nothing ∷ weight_asked f ∷ [])

  pub tables_stop : (r : Refusal) → refused r ≡ first tables → refused r ≡ first (front_to_back f (past 0 opening) (later_asked (form_of f) f) (heads_in f))
  unfolding heads_in
  tables_stop r e = by (form_of f)
    where
      by : (form : Form) → refused r ≡ first (left form)
      by One = rw left_one (stops_before tables plain_left r e)
      by Two = rw left_two (stops_before tables creased_left r e)

  module _ (e : DONE ≡ first tables) where
    pub plain_left_lem : form_of f ≡ One → first plain_left ≡ first (front_to_back f (past 0 opening) (later_asked (form_of f) f) (heads_in f))
    unfolding heads_in
    plain_left_lem o = rw (o, left_one) (passes_before tables plain_left e)

    pub creased_left_lem : form_of f ≡ Two → first creased_left ≡ first (front_to_back f (past 0 opening) (later_asked (form_of f) f) (heads_in f))
    unfolding heads_in
    creased_left_lem o = rw (o, left_two) (passes_before tables creased_left e)
