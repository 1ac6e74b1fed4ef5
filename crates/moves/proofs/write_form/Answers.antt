-- `write_form` leaves writing to the writer of the form, for form 1 where the cage is plain; else it checks the cage, and gives 16.
use Prim.Native.Nat.{ℕ}
use mathlib.Core.Path.{◌≡◌, sym, ap, ◌∙◌}
use mathlib.Core.Bool.{true, false}
use mathlib.Core.List.{List}
use Rattle.halfedges.specs.declared.refusal.Refusal.TheVariants.{NotOld}
use Rattle.halfedges.specs.Refusals.{first}
use Rattle.halfedges.proofs.Told.{handed_on}
use Rattle.cage.proofs.CageChecks.{short_checks}
use Rattle.cagefile.specs.declared.fields.Form.TheVariants.{One, Two}
use Rattle.cagefile.specs.Fields.{Cage}
use Rattle.writing.specs.Writing.{weighted}
use Rattle.writing.proofs.Outcomes.{refused_left}
use Rattle.moves.specs.Moves.{not_old}
use Rattle.moves.proofs.CageMoves.{old_plain, plain-written, old_written, moves_refused, moves_not_old}
use Rattle.moves.proofs.write_form.Goals as goal
use Rattle.moves.proofs.write_form.Goals.{Start}

module _ (s : Start) where
  abbrev cage : Cage
  cage = weighted s.args.cage.now s.args.weight

  abbrev lent : List ℕ
  lent = s.args.lent.now

pub returns-then-not-is_numbered : goal.returns-then-not-is_numbered
returns-then-not-is_numbered c =
    let old : not_old One (cage (goal.at.returns-then-not-is_numbered c).Start) ≡ false = sym c.is_numbered.ensures ∙ c.if-not-is_numbered.true in
    rw (c.in-One.is, ← old_written (cage (goal.at.returns-then-not-is_numbered c).Start) _ (old_plain One _ c.requires old)) c.write.ensures

pub returns-in_err-check_for_refining-in-One : goal.returns-in_err-check_for_refining-in-One
returns-in_err-check_for_refining-in-One c =
    rw (handed_on c.from_residual.ensures)
    (refused_left _ _ _ (moves_refused _ _ _ _ (c.in_err-check_for_refining-in-One.ensures ∙ ap first (short_checks _ _ _ 0))))

pub returns-in_ok-check_for_refining-in-One : goal.returns-in_ok-check_for_refining-in-One
returns-in_ok-check_for_refining-in-One c =
    let s = (goal.at.returns-in_ok-check_for_refining-in-One c).Start in
    let old : not_old s.args.form (cage s) ≡ true =
    ap (λ k. not_old k (cage s)) c.in-One.is ∙ sym c.is_numbered.ensures ∙ c.if-not-is_numbered.false in
    refused_left _ _ NotOld (moves_not_old _ _ _ (c.in_ok-check_for_refining-in-One.ensures ∙ ap first (short_checks _ _ _ 0)) old)

pub returns-in-Two : goal.returns-in-Two
returns-in-Two c =
    rw (c.in-Two.is, ← plain-written Two (cage (goal.at.returns-in-Two c).Start) (lent (goal.at.returns-in-Two c).Start) tt) c.write_form_2.ensures
