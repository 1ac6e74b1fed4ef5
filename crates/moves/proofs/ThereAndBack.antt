-- A file that moved, moved back, has the same bytes (`there_and_back`). Assumes nothing.
use Prim.Native.Nat.{ℕ, ◌≤◌}
use mathlib.Core.Path.{◌≡◌, refl, ap, ◌∙◌}
use mathlib.Core.Bool.{false}
use mathlib.Core.List.{List, [], ◌∷◌}
use lib.ListN.{length}
use lib.Seq.{take_at}
use borrow.Author.Tests.{le-ltb}
use Rattle.laws.specs.Parts.{in_front}
use Rattle.halfedges.specs.Refusals.{DONE, given, short, first, said, filled}
use Rattle.halfedges.proofs.Checks.{first_more, done_both, done_passes}
use Rattle.points.specs.Operations.{creased_checks}
use Rattle.cagefile.specs.declared.fields.Form.{Form}
use Rattle.cagefile.specs.Fields.{file}
use Rattle.cagefile.proofs.NumberLaws.{Bytes}
use Rattle.filechecks.specs.Contents.{cage_in}
use Rattle.filechecks.specs.FileChecks.{file_checks}
use Rattle.writing.specs.Writing.{Written, written}
use Rattle.writing.proofs.Accepted.{creased_kept}
use Rattle.filelaws.proofs.ReadBack.{cage_of_file}
use Rattle.filelaws.proofs.Accepted.{Accepted, accepted_form}
use Rattle.filelaws.proofs.RoundTrips.{file_of}
use Rattle.filelaws.proofs.ThereAndBack.{plain_in, form_asked, moved_passes, moved_back}
use Rattle.moves.specs.Moves.{not_old, cage_moves, move_checks, move_room, move_verdict, move}
use Rattle.moves.proofs.CageMoves.{old_plain, plain_old}

-- a file written whole in front of what was lent
abbrev all_written : List ℕ → List ℕ → Written
all_written f lent = record { answer = record { verdict = DONE; values = length f }; file = in_front f lent }

move_done : (from to : Form) (f lent : List ℕ) → move_verdict from to f lent ≡ DONE → move from to f lent ≡ all_written (file to (cage_in f)) lent
unfolding move written said filled
move_done from to f lent e = rw e

module _ (from to : Form) (f lent : List ℕ) where
  kept : move_verdict from to f lent ≡ DONE → (first (file_checks (from ∷ []) f) ≡ DONE) × Accepted (cage_in f) × (not_old to (cage_in f) ≡ false)
  unfolding move_verdict move_checks cage_moves
  kept e =
      let w = cage_in f in
      let (a, b) = done_both (file_checks (from ∷ []) f) _ (done_both (move_checks from to f) _ e).0 in
      let (c, d) = done_both (creased_checks w.connectivity w.creases w.points 0) _ b in
      (a, c, (done_passes _ _ _ refl d).0)

  passes : first (file_checks (from ∷ []) f) ≡ DONE → Accepted (cage_in f) → not_old to (cage_in f) ≡ false → length (file to (cage_in f)) ≤ length lent → move_verdict from to f lent ≡ DONE
  unfolding move_verdict move_checks cage_moves move_room first given short
  passes a c n l =
      let w = cage_in f in
      let checks : first (move_checks from to f) ≡ DONE =
      first_more (file_checks (from ∷ []) f) _ a ∙ first_more (creased_checks w.connectivity w.creases w.points 0) _ c ∙ rw n in
      first_more (move_checks from to f) _ checks ∙ rw (le-ltb (length lent) (length (file to w)) l)

pub there_and_back : (from to : Form) (f lent : List ℕ) → move_verdict from to f lent ≡ DONE → Bytes f
    → (lentBack : List ℕ) → length f ≤ length lentBack → move to from (file_of (move from to f lent)) lentBack ≡ all_written f lentBack
there_and_back from to f lent e b lentBack l =
    let w = cage_in f in
    let g = file to w in
    let (whole, accepted, old) = kept from to f lent e in
    let fits = accepted_form to w accepted (old_plain to w (creased_kept w.connectivity w.creases w.points accepted).1 old) in
    let same : cage_in g ≡ w = cage_of_file to w fits in
    let back : file from (cage_in g) ≡ f = moved_back from f whole to fits b in
    let moved : file_of (move from to f lent) ≡ g = ap file_of (move_done from to f lent e) ∙ take_at g _ _ refl in
    rw moved
    (move_done to from g lentBack
    (passes to from g lentBack (moved_passes from f whole to fits) (rw same accepted) (rw same (plain_old from w (plain_in from f (form_asked from f whole)))) (rw back l))
    ∙ ap (λ k. all_written k lentBack) back)
