-- `check_opening` goes through the definition's three checks in order.
use Prim.Native.Nat.{ℕ, ◌%◌}
use mathlib.Core.Path.{◌≡◌, sym, ◌∙◌}
use mathlib.Core.Logic.{◌≢◌}
use mathlib.Core.Bool.{true, false}
use mathlib.Core.List.{List}
use borrow.Author.Tests.{eq-eqb, ne_eqb}
use Rattle.halfedges.specs.Refusals.{Verdict, DONE, SHAPE, LIMIT, FIELD, given, first}
use Rattle.halfedges.specs.Counts.{above_limit}
use Rattle.cagefile.specs.declared.fields.Form.{Form}
use Rattle.cagefile.specs.declared.fields.Form.TheVariants.{One, Two}
use Rattle.cagefile.specs.Fields.{number}
use Rattle.filechecks.specs.Contents.{form_in, form_of, HIn, VIn}
use Rattle.filechecks.specs.FileChecks.{other_form, opening_asked, both}
use Rattle.filechecks.proofs.check_opening.Goals as goal

-- whether the number is a form's
module _ (f : List ℕ) where
  known : (x : Form) → form_in f ≡ number x → (other_form both f ≡ false) × (x ≡ form_of f)
  unfolding form_of
  known One e = (simp e, simp e)
  known Two e = (simp e, simp e)

  unknown : ((x : Form) → form_in f ≢ number x) → other_form both f ≡ true
  unknown n = simp (ne_eqb _ _ (n One), ne_eqb _ _ (n Two))

-- what the three checks tell
module _ (f : List ℕ) where
  abbrev asked : Verdict
  asked = first (opening_asked both f 0)

  other_told : other_form both f ≡ true → FIELD 0 ≡ asked
  unfolding opening_asked first given
  other_told e = simp e

  module _ (form : other_form both f ≡ false) where
    empty_told : HIn f ≡ 0 → SHAPE ≡ asked
    unfolding opening_asked first given
    empty_told e = simp (form, eq-eqb _ _ e)

    module _ (some : HIn f ≢ 0) where
      threes_told : HIn f % 3 ≢ 0 → SHAPE ≡ asked
      unfolding opening_asked first given
      threes_told n = simp (form, ne_eqb _ _ some, ne_eqb _ _ n)

      module _ (threes : HIn f % 3 ≡ 0) where
        limit_told : above_limit (HIn f) (VIn f) 0 ≡ true → LIMIT ≡ asked
        unfolding opening_asked first given
        limit_told e = simp (form, ne_eqb _ _ some, eq-eqb _ _ threes, e)

        done_told : above_limit (HIn f) (VIn f) 0 ≡ false → DONE ≡ asked
        unfolding opening_asked first given
        done_told e = simp (form, ne_eqb _ _ some, eq-eqb _ _ threes, e)

pub returns-in_default-clause-checked : goal.returns-in_default-clause-checked
returns-in_default-clause-checked c = other_told _ (unknown c.args.file.now (λ x e. c.in_default.ensures x (c.form_in.ensures ∙ e)))

pub returns-then-halfedges-eq0-clause-checked : goal.returns-then-halfedges-eq0-clause-checked
returns-then-halfedges-eq0-clause-checked c =
    let k = known c.args.file.now c.in-Ok.form (sym c.form_in.ensures ∙ c.in-Ok.ensures) in
    empty_told _ k.0 (sym c.halfedges_in-halfedges.ensures.0 ∙ c.if-halfedges-eq0.true)

pub returns-then-halfedges-ne0-clause-checked : goal.returns-then-halfedges-ne0-clause-checked
returns-then-halfedges-ne0-clause-checked c =
    let k = known c.args.file.now c.in-Ok.form (sym c.form_in.ensures ∙ c.in-Ok.ensures) in
    threes_told _ k.0 (rw c.halfedges_in-halfedges.ensures.0 at c.if-halfedges-eq0.false) (rw c.halfedges_in-halfedges.ensures.0 at c.if-halfedges-ne0.true)

pub returns-then-above_limit-clause-checked : goal.returns-then-above_limit-clause-checked
returns-then-above_limit-clause-checked c =
    let k = known c.args.file.now c.in-Ok.form (sym c.form_in.ensures ∙ c.in-Ok.ensures) in
    let h = c.halfedges_in-halfedges.ensures.0 in
    limit_told _ k.0 (rw h at c.if-halfedges-eq0.false) (rw h at c.if-halfedges-ne0.false) (sym (rw (h, c.vertices_in-vertices.ensures.0) at c.above_limit.ensures) ∙ c.if-above_limit.true)

pub returns : goal.returns
returns c =
    let k = known c.args.file.now c.in-Ok.form (sym c.form_in.ensures ∙ c.in-Ok.ensures) in
    let h = c.halfedges_in-halfedges.ensures.0 in
    record {
      checked = done_told _ k.0 (rw h at c.if-halfedges-eq0.false) (rw h at c.if-halfedges-ne0.false) (sym (rw (h, c.vertices_in-vertices.ensures.0) at c.above_limit.ensures) ∙ c.if-above_limit.false);
      known = k.1;
    }
