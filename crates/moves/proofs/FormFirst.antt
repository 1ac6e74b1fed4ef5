-- The first field of a file that is to have a form, looked at before all else: what refuses there is the file's refusal (`form_refused`), and
-- where it passes the file is checked as one of either form is (`form_held`). Assumes nothing.
use Prim.Native.Nat.{ℕ}
use mathlib.Core.Path.{◌≡◌, refl, sym, ap, ◌∙◌}
use mathlib.Core.List.{List, [], ◌∷◌, ◌++◌, append_assoc}
use Rattle.halfedges.specs.declared.refusal.Refusal.{Refusal}
use Rattle.halfedges.specs.Refusals.{Verdict, DONE, FIELD, refused, given, first}
use Rattle.halfedges.proofs.Checks.{done_both, done_passes, stops_before}
use Rattle.cagefile.specs.declared.fields.Form.{Form}
use Rattle.cagefile.specs.Fields.{opening}
use Rattle.filechecks.specs.FileChecks.{field_checks, other_form, opening_asked, front_to_back, file_checks, both}
use Rattle.filechecks.proofs.Sound.{form_known, known_one}

module _ (form : Form) (f : List ℕ) where
  abbrev first_field : List Verdict
  first_field = field_checks f 0 opening ++ (given (other_form (form ∷ []) f) (FIELD 0) ∷ [])

  pub form_refused : (r : Refusal) → refused r ≡ first first_field → refused r ≡ first (file_checks (form ∷ []) f)
  unfolding file_checks front_to_back opening_asked
  form_refused r e = stops_before first_field _ r e ∙ ap first (append_assoc (field_checks f 0 opening) _ _)

  pub form_held : DONE ≡ first first_field → first (file_checks both f) ≡ first (file_checks (form ∷ []) f)
  unfolding file_checks front_to_back opening_asked
  form_held d =
      let whole = done_both (field_checks f 0 opening) _ (sym d) in
      let (a, b) = form_known f form (known_one f form (done_passes _ _ _ refl whole.1).0) in
      rw (a, b)
