-- A cage that the checks accept fits a form. Assumes nothing.
--     accepted_form     either form where the cage check accepts it with its creases, form 1 where it is plain
--     same_checks       which is what writing checks, of a plain cage too
--     checked_form      so whatever writing takes fits
--     fits_length       what fits has a file no longer than the longest that reads, and so has what is accepted (`accepted-length`)
use Prim.Native.Nat.{◌≤◌}
use mathlib.Core.Path.{◌≡◌, refl, sym, ap, ◌∙◌}
use mathlib.Core.List.{List}
use native.Mathlib.Omega.{arith}
use lib.IntN.{ℤ}
use lib.ListN.{length}
use Rattle.halfedges.specs.Cage.{E}
use Rattle.halfedges.specs.Refusals.{DONE, TWIN, first}
use Rattle.halfedges.proofs.Checks.{Clean, done_passes, done_nowhere}
use Rattle.tables.specs.Tables.{Tables}
use Rattle.tables.specs.Rules.{bad_twin}
use Rattle.tables.specs.Check.{rules}
use Rattle.tables.proofs.EdgeCount.{edges_at_most}
use Rattle.points.specs.Operations.{cage_checks, creased_checks}
use Rattle.sharpness.proofs.Checks.{zeros_checks}
use Rattle.cagefile.specs.declared.fields.Form.{Form}
use Rattle.cagefile.specs.declared.fields.Form.TheVariants.{One, Two}
use Rattle.cagefile.specs.Fields.{Cage, file}
use Rattle.cagefile.proofs.Fits.{Fits, Numbered, file-length}
use Rattle.filechecks.proofs.Sound.{longest}
use Rattle.writing.specs.Writing.{write_checks}
use Rattle.writing.proofs.Accepted.{accepted_fits, creased_kept}
use Rattle.filelaws.proofs.ReadBack.{PlainIn, FitsForm}

-- the cage check accepts it with its creases
abbrev pub Accepted : Cage → Type 0
Accepted w = first (creased_checks w.connectivity w.creases w.points 0) ≡ DONE

-- then 3 finds nothing
twins_kept : (c : Tables) (points : List ℤ) → first (cage_checks c points 0) ≡ DONE → Clean (length c.twin) (bad_twin c.twin)
unfolding cage_checks rules
twins_kept c points e =
    let shape = done_passes _ _ _ refl e in
    let limits = done_passes _ _ _ refl shape.1 in
    (done_nowhere (length c.twin) (bad_twin c.twin) TWIN _ (λ _. refl) limits.1).0

numbers : (form : Form) (w : Cage) → length w.creases ≡ E w.connectivity.twin → Numbered form w
numbers One w long = tt
numbers Two w long = long

pub accepted_form : (form : Form) (w : Cage) → Accepted w → PlainIn form w → FitsForm form w
accepted_form form w e plain =
    let kept = creased_kept w.connectivity w.creases w.points e in
    record {
      fits = accepted_fits w.connectivity w.points kept.0;
      twinned = twins_kept w.connectivity w.points kept.0;
      numbered = numbers form w kept.1;
      plain = plain;
    }

pub same_checks : (form : Form) (w : Cage) → PlainIn form w → first (write_checks form w) ≡ first (creased_checks w.connectivity w.creases w.points 0)
unfolding write_checks
same_checks One w plain = rw (ap (λ u. u.creases) plain) (sym (zeros_checks w.connectivity w.points 0))
same_checks Two w plain = refl

pub checked_form : (form : Form) (w : Cage) → first (write_checks form w) ≡ DONE → PlainIn form w → FitsForm form w
checked_form form w e plain = accepted_form form w (sym (same_checks form w plain) ∙ e) plain

pub fits_length : (form : Form) (w : Cage) → Fits w.connectivity w.points → Numbered form w → length (file form w) ≤ longest form
fits_length One w fits n = omega (arith, file-length w fits.shaped One, fits.few_halfedges, fits.few_vertices)
fits_length Two w fits n = omega (arith, file-length w fits.shaped Two, fits.few_halfedges, fits.few_vertices, edges_at_most w.connectivity.twin, n)

pub accepted-length : (form : Form) (w : Cage) → Accepted w → length (file form w) ≤ longest form
accepted-length form w e =
    let kept = creased_kept w.connectivity w.creases w.points e in
    fits_length form w (accepted_fits w.connectivity w.points kept.0) (numbers form w kept.1)
