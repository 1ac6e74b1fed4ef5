-- The checks of a cage that moves. Assumes nothing.
--     moves_refused, moves_not_old   the check's refusal is the move's, and past the check 16 is given
--     old_plain, plain_old           a cage with a number for each edge is plain exactly where 16 is not given
--     plain-written                  then writing it leaves what the move does, also without its creases and weight (`old_written`)
use Prim.Native.Nat.{ℕ, ◌≤◌}
use mathlib.Core.Path.{◌≡◌, refl, sym, ap, ap₂, ◌∙◌}
use mathlib.Core.Bool.{true, false}
use mathlib.Core.List.{List, [], ◌++◌, append-nil}
use native.Mathlib.Omega.{arith}
use lib.Dec.{ltb}
use lib.ListN.{length, length-replicate}
use lib.Seq.{ext_get_or}
use borrow.Author.Tests.{ltb-false}
use Rattle.laws.specs.Below.{any}
use Rattle.laws.proofs.Tests.{or_false, any_false, false_any}
use Rattle.halfedges.specs.Cage.{cell, E}
use Rattle.halfedges.specs.declared.refusal.Refusal.{Refusal}
use Rattle.halfedges.specs.declared.refusal.Refusal.TheVariants.{NotOld}
use Rattle.halfedges.specs.Refusals.{Verdict, DONE, NOT_OLD, refused, given, first}
use Rattle.halfedges.proofs.Checks.{is_passed, first_passed, stops_before, passes_before}
use Rattle.creases.specs.Creases.{no_creases}
use Rattle.points.specs.declared.weights.Weight.{Weight}
use Rattle.points.specs.declared.weights.Weight.TheVariants.{Short, Paper}
use Rattle.points.specs.Weights.{weight_number}
use Rattle.points.specs.Operations.{creased_checks}
use Rattle.sharpness.proofs.Checks.{of_parts, zero_each}
use Rattle.cagefile.specs.declared.fields.Form.{Form}
use Rattle.cagefile.specs.declared.fields.Form.TheVariants.{One, Two}
use Rattle.cagefile.specs.Fields.{Cage, file}
use Rattle.writing.specs.Writing.{plain, write_verdict, Written, written, write_file}
use Rattle.filelaws.proofs.ReadBack.{PlainIn}
use Rattle.filelaws.proofs.Accepted.{same_checks}
use Rattle.moves.specs.Moves.{numbered, not_old, cage_moves, move_room}

module _ (form : Form) (w : Cage) (lent : List ℕ) where
  abbrev checks : List Verdict
  checks = creased_checks w.connectivity w.creases w.points 0

  pub moves_refused : (r : Refusal) → refused r ≡ first checks → refused r ≡ first (cage_moves form w ++ move_room form w lent)
  unfolding cage_moves
  moves_refused r e = stops_before (cage_moves form w) _ r (stops_before checks _ r e)

  not_old_lem : DONE ≡ first checks → not_old form w ≡ true → NOT_OLD ≡ first (cage_moves form w)
  unfolding cage_moves first given
  not_old_lem d n = sym (sym (passes_before checks _ d) ∙ rw n)

  pub moves_not_old : DONE ≡ first checks → not_old form w ≡ true → NOT_OLD ≡ first (cage_moves form w ++ move_room form w lent)
  moves_not_old d n = stops_before (cage_moves form w) _ NotOld (not_old_lem d n)

-- ---- plain cages

short_weight : (w : Weight) → weight_number w ≤ 0 → w ≡ Short
short_weight Short l = refl
short_weight Paper l = absurd (omega arith)

pub old_plain : (form : Form) (w : Cage) → length w.creases ≡ E w.connectivity.twin → not_old form w ≡ false → PlainIn form w
unfolding numbered
old_plain One w long n =
    let (creases, weight) = or_false (any (length w.creases) _) _ n in
    let zeros : w.creases ≡ no_creases w.connectivity.twin =
    ext_get_or {A = ℕ} 0 w.creases (no_creases w.connectivity.twin) (long ∙ sym (length-replicate {A = ℕ} (E w.connectivity.twin) 0))
    (λ k l. omega (arith, ltb-false 0 (cell w.creases k) (any_false (λ e. ltb 0 (cell w.creases e)) (length w.creases) creases k l), zero_each w.connectivity k))
    in
    ap₂ (λ cs s. record { connectivity = w.connectivity; points = w.points; creases = cs; weight = s }) zeros
    (short_weight w.weight (ltb-false _ _ weight))
old_plain Two w long n = tt

pub plain_old : (form : Form) (w : Cage) → PlainIn form w → not_old form w ≡ false
unfolding numbered
plain_old One w p =
    let zero : (k : ℕ) → cell w.creases k ≡ 0 = λ k. ap (λ u. cell u.creases k) p ∙ zero_each w.connectivity k in
    rw (false_any (λ e. ltb 0 (cell w.creases e)) (length w.creases) (λ k l. rw (zero k)), ap (λ u. u.weight) p)
plain_old Two w p = refl

-- ---- what the move of a cage leaves

abbrev pub moved : Form → Cage → List ℕ → Written
moved form w lent = written (first (cage_moves form w ++ move_room form w lent)) (file form w) lent

-- 16 is not given of a plain cage, so that the checks are the check's
old_checks : (form : Form) (w : Cage) → PlainIn form w → first (cage_moves form w) ≡ first (creased_checks w.connectivity w.creases w.points 0)
unfolding cage_moves
old_checks form w p =
    let checks = creased_checks w.connectivity w.creases w.points 0 in
    of_parts checks checks _ [] refl (first_passed (given (not_old form w) NOT_OLD) [] (is_passed (not_old form w) NOT_OLD (plain_old form w p)))
    ∙ ap first (append-nil checks)

pub plain-written : (form : Form) (w : Cage) (lent : List ℕ) → PlainIn form w → write_file form w lent ≡ moved form w lent
unfolding write_file write_verdict move_room
plain-written form w lent p =
    ap (λ v. written v (file form w) lent) (of_parts _ _ _ _ (same_checks form w p ∙ sym (old_checks form w p)) refl)

-- a plain cage's file of form 1 is that of its tables and points
pub old_written : (w : Cage) (lent : List ℕ) → PlainIn One w → write_file One (plain w.connectivity w.points) lent ≡ moved One w lent
old_written w lent p = ap (λ u. write_file One u lent) (sym p) ∙ plain-written One w lent p
