-- What the checks of a file say where they pass. Assumes nothing.
--     form_is, form_known, known_form    a file with a form's number has that form
--     checks_sound           a file that passes the checks has its fields, its form, and H and V within the limits
--     later-fields           after the tables stand the form's other fields, in form 2 first the creases (`creases_head`, `creases_whole`)
--     sound_length           such a file has 24 + 6H + 12V bytes, and in form 2 seven and E more
--     sound_at_most          which is 43,032 at most, or 46,111 in form 2
use Prim.Native.Nat.{ℕ, ◌+◌, ◌*◌, ◌≤◌}
use mathlib.Core.Path.{◌≡◌, refl, sym, ap, ◌∙◌}
use mathlib.Core.Bool.{false, true≢false}
use mathlib.Core.List.{List, [], ◌∷◌}
use native.Mathlib.Decide.{ℕ_discrete}
use native.Mathlib.Omega.{arith}
use lib.ListN.{length, get_or}
use borrow.Author.Tests.{eq-eqb, ne_eqb, ltb-false}
use Rattle.halfedges.specs.Cage.{E, most_halfedges, most_vertices}
use Rattle.halfedges.specs.Refusals.{DONE, first}
use Rattle.halfedges.proofs.Checks.{done_both, done_passes}
use Rattle.halfedges.proofs.Questions.{limits_kept}
use Rattle.tables.proofs.EdgeCount.{edges_at_most}
use Rattle.cagefile.specs.declared.fields.Form.{Form}
use Rattle.cagefile.specs.declared.fields.Form.TheVariants.{One, Two}
use Rattle.cagefile.specs.Fields.{number, opening, table_heads, later_heads, heads}
use Rattle.cagefile.specs.Numbers.{u16_at}
use Rattle.cagefile.proofs.Fits.{extra}
use Rattle.filechecks.specs.Contents.{form_in, HIn, VIn, EIn, edges_for, form_of, twins_in, heads_in, payload_at, payload, past}
use Rattle.filechecks.specs.FileChecks.{field_checks, fields_checks, other_form, opening_asked, twins_asked, weight_asked, later_asked, file_checks, both}
use Rattle.filechecks.specs.Internal.Sound.{front_checks, Sound}
use Rattle.filechecks.proofs.FieldLaws.{FieldAt, field_at, fields_end}
use Rattle.filechecks.proofs.Lengths.{twins-length}
use Rattle.filechecks.proofs.FrontToBack.{questions, fields_and_asked, tables_alone}

-- ---- the form

module _ (f : List ℕ) where
  pub form_is : (form : Form) → form_in f ≡ number form → form_of f ≡ form
  unfolding form_of
  form_is One e = rw (ne_eqb (form_in f) 2 (λ q. omega arith))
  form_is Two e = rw (eq-eqb (form_in f) 2 e)

  -- a form that is among those asked for is not another
  pub form_known : (form : Form) → form_in f ≡ number form → (other_form both f ≡ false) × (other_form (form ∷ []) f ≡ false)
  form_known One e = rw (eq-eqb (form_in f) 1 e) (refl, refl)
  form_known Two e = rw (ne_eqb (form_in f) 1 (λ q. omega arith), eq-eqb (form_in f) 2 e) (refl, refl)

  -- and of one form that is not another the number is known
  pub known_one : (form : Form) → other_form (form ∷ []) f ≡ false → form_in f ≡ number form
  known_one form n = by (ℕ_discrete (form_in f) (number form))
    where
      by : Dec (form_in f ≡ number form) → form_in f ≡ number form
      by (yes e) = e
      by (no d) = absurd (true≢false (rw (ne_eqb (form_in f) (number form) d) at n))

  -- a file that is to have one of some forms, and has, has the form that it is numbered by
  pub known_form : (forms : List Form) → other_form forms f ≡ false → form_in f ≡ number (form_of f)
  known_form [] n = absurd (true≢false n)
  known_form (form ∷ forms) n = by (ℕ_discrete (form_in f) (number form)) (λ m. known_form forms m)
    where
      by : Dec (form_in f ≡ number form) → (other_form forms f ≡ false → form_in f ≡ number (form_of f)) → form_in f ≡ number (form_of f)
      by (yes e) rest = e ∙ ap number (sym (form_is form e))
      by (no d) rest = rest (rw (ne_eqb (form_in f) (number form) d) at n)

-- ---- the file

-- what the first payload's checks leave
pub opening_kept : (forms : List Form) (f : List ℕ) (at : ℕ) → first (opening_asked forms f at) ≡ DONE → (other_form forms f ≡ false) × (HIn f ≤ most_halfedges) × (VIn f ≤ most_vertices)
unfolding opening_asked
opening_kept forms f at e =
    let form = done_passes _ _ _ refl e in
    let shape = done_passes _ _ _ refl form.1 in
    let limits = limits_kept (HIn f) (VIn f) 0 (done_passes _ _ _ refl shape.1).0 in
    (form.0, limits.0, limits.1)

module _ (f : List ℕ) where
  -- what is asked of the weight
  weight_kept : (form : Form) → form_of f ≡ form → first (questions (past 0 opening) (later_asked form f) (heads_in f)) ≡ DONE → form_of f ≡ Two → get_or f (payload f 5) 0 ≤ 1
  unfolding heads_in table_heads later_heads weight_asked payload_at
  weight_kept One o e t = absurd (one_not_two (sym o ∙ t))
    where
      one_not_two : One ≡ Two → ⊥
      one_not_two p = omega (arith, ap number p)
  weight_kept Two o e t =
      rw o (ltb-false _ _ (done_passes _ _ _ refl (done_both (twins_asked f _) _ (rw o at e)).1).0)

  pub checks_sound : (forms : List Form) → first (file_checks forms f) ≡ DONE → Sound f
  unfolding file_checks
  checks_sound forms e =
      let (fields, rest) = fields_and_asked f (opening_asked forms f ∷ later_asked (form_of f) f) (opening ∷ heads_in f) 0 e in
      let (start, later) = done_both (opening_asked forms f 0) _ rest in
      let (known, H, v) = opening_kept forms f 0 start in
      record { fields = fields; known = known_form f forms known; few_halfedges = H; few_vertices = v; light = weight_kept (form_of f) refl later }

-- ---- how long it is

abbrev pub longest : Form → ℕ
longest One = 43032
longest Two = 46111

pub edges_few : (f : List ℕ) → E (twins_in f) ≤ HIn f
edges_few f = omega (arith, edges_at_most (twins_in f), twins-length f)

-- at most H creases
pub few_creases : (f : List ℕ) → EIn f ≤ HIn f
few_creases f = by (form_of f)
  where
    by : (form : Form) → edges_for form (twins_in f) ≤ HIn f
    by One = omega arith
    by Two = edges_few f

module _ (f : List ℕ) (s : Sound f) where
  pub sound_length : length f ≡ 24 + 6 * HIn f + 12 * VIn f + extra (form_of f) (EIn f)
  unfolding payload_at heads_in table_heads later_heads
  sound_length = by (form_of f) (fields_end f _ 0 (omega arith) s.fields)
    where
      by : (form : Form) → length f + 3 ≡ payload_at 0 (opening ∷ heads form (HIn f) (edges_for form (twins_in f)) (VIn f)) → length f ≡ 24 + 6 * HIn f + 12 * VIn f + extra form (edges_for form (twins_in f))
      by One e = omega arith
      by Two e = omega arith

  pub sound_at_most : length f ≤ longest (form_of f)
  sound_at_most = by (form_of f) sound_length
    where
      by : (form : Form) → length f ≡ 24 + 6 * HIn f + 12 * VIn f + extra form (edges_for form (twins_in f)) → length f ≤ longest form
      by One e = omega (arith, s.few_halfedges, s.few_vertices)
      by Two e = omega (arith, s.few_halfedges, s.few_vertices, edges_few f)

-- ---- its fields after the tables

module _ (f : List ℕ) (s : Sound f) where
  pub later-fields : first (fields_checks f (18 + 6 * HIn f) (later_heads (form_of f) (EIn f) (VIn f))) ≡ DONE
  unfolding heads_in fields_checks
  later-fields =
      let rest = (done_both (field_checks f 0 opening) _ s.fields).1 in
      (done_both (front_checks f (past 0 opening) (table_heads (HIn f))) _ (rw (tables_alone f (HIn f) (later_heads (form_of f) (EIn f) (VIn f))) at rest)).1

  module _ (two : form_of f ≡ Two) where
    creases_field : FieldAt f (18 + 6 * HIn f) (record { tag = 0x23; size = E (twins_in f) })
    unfolding later_heads fields_checks
    creases_field = field_at f _ _ (done_both (field_checks f (18 + 6 * HIn f) (record { tag = 0x23; size = E (twins_in f) })) _ (rw two at later-fields)).0

    pub creases_head : u16_at f (18 + 6 * HIn f + 1) ≡ E (twins_in f)
    creases_head = creases_field.size

    pub creases_whole : 18 + 6 * HIn f + 1 + 2 ≤ length f
    creases_whole = omega (arith, creases_field.whole)
