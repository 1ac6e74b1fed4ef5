-- A file of one form whose cage fits the other: what the moves between them rest on. Assumes nothing.
--     form_asked      a file that passes the checks of a form has that form
--     plain_in        and the cage in it is one that the form can hold: of form 1 a plain one
--     moved_passes    the cage's file in the other form passes the checks of that form
--     moved_back      the cage in that file, in the first form again: the same bytes
use Prim.Native.Nat.{ℕ}
use mathlib.Core.Path.{◌≡◌}
use mathlib.Core.List.{List, [], ◌∷◌}
use Rattle.halfedges.specs.Refusals.{DONE, first}
use Rattle.halfedges.proofs.Checks.{done_both}
use Rattle.cagefile.specs.declared.fields.Form.{Form}
use Rattle.cagefile.specs.declared.fields.Form.TheVariants.{One, Two}
use Rattle.cagefile.specs.Fields.{opening, file}
use Rattle.cagefile.proofs.NumberLaws.{Bytes}
use Rattle.filechecks.specs.Contents.{form_of, weight_in, cage_in}
use Rattle.filechecks.specs.FileChecks.{field_checks, opening_asked, front_to_back, file_checks}
use Rattle.filechecks.proofs.Sound.{form_is, form_known, known_one, opening_kept, checks_sound}
use Rattle.filelaws.proofs.ReadBack.{PlainIn, FitsForm, form_read, cage_of_file, file_passes}
use Rattle.filelaws.proofs.WriteBack.{file_of_cage}

pub plain_in : (form : Form) (f : List ℕ) → form_of f ≡ form → PlainIn form (cage_in f)
unfolding cage_in weight_in
plain_in One f o = rw o
plain_in Two f o = tt

module _ (from : Form) (f : List ℕ) (e : first (file_checks (from ∷ []) f) ≡ DONE) where
  pub form_asked : form_of f ≡ from
  unfolding file_checks front_to_back
  form_asked =
      let rest = (done_both (field_checks f 0 opening) _ e).1 in
      form_is f from (known_one f from (opening_kept (from ∷ []) f 0 (done_both (opening_asked (from ∷ []) f 0) _ rest).0).0)

  module _ (to : Form) (fits : FitsForm to (cage_in f)) where
    pub moved_passes : first (file_checks (to ∷ []) (file to (cage_in f))) ≡ DONE
    moved_passes = file_passes (to ∷ []) to (cage_in f) fits (form_known (file to (cage_in f)) to (form_read to (cage_in f) fits)).1

    pub moved_back : Bytes f → file from (cage_in (file to (cage_in f))) ≡ f
    moved_back b =
        rw (cage_of_file to (cage_in f) fits, ← form_asked) (file_of_cage f (checks_sound f (from ∷ []) e) b)
