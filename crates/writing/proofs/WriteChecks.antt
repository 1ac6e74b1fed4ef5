-- The verdict of writing where its checks are done, as the code goes (`write_checked`, `write_short`, `write_roomy`), and the room where it is
-- done too (`write_room`). Assumes nothing.
use Prim.Native.Nat.{ℕ, ◌+◌, ◌*◌, ◌≤◌, ◌<◌}
use mathlib.Core.Path.{◌≡◌, sym}
use mathlib.Core.List.{List, [], ◌∷◌}
use native.Mathlib.Omega.{arith}
use lib.ListN.{length}
use borrow.Author.Tests.{lt-ltb, le-ltb}
use Rattle.halfedges.specs.Refusals.{DONE, ROOM, given, short, first}
use Rattle.halfedges.proofs.Checks.{passes_before}
use Rattle.points.specs.Operations.{vertices}
use Rattle.cagefile.specs.declared.fields.Form.{Form}
use Rattle.cagefile.specs.Fields.{Cage, file}
use Rattle.cagefile.proofs.Fits.{Fits, Numbered, extra, file-length}
use Rattle.writing.specs.Writing.{write_checks, write_verdict}
use Rattle.writing.proofs.Accepted.{checked_fits, write_fits}

-- what the file takes
abbrev pub needed : Form → Cage → ℕ
needed form w = 24 + 6 * length w.connectivity.twin + 12 * vertices w.points + extra form (length w.creases)

-- where writing is done there is room
pub write_room : (form : Form) (w : Cage) (lent : List ℕ) → write_verdict form w lent ≡ DONE → needed form w ≤ length lent
write_room form w lent e = let k = write_fits form w lent e in omega (arith, k.2, file-length w k.0.shaped form)

-- the checks are done
module _ (form : Form) (w : Cage) (lent : List ℕ) (e : DONE ≡ first (write_checks form w)) where
  pub write_checked : Fits w.connectivity w.points × Numbered form w
  write_checked = checked_fits form w (sym e)

  room_left : first (short 5 (length (file form w)) (length lent) ∷ []) ≡ write_verdict form w lent
  unfolding write_verdict
  room_left = passes_before (write_checks form w) _ e

  pub write_short : length lent < needed form w → ROOM 5 ≡ write_verdict form w lent
  unfolding short given first
  write_short l = rw (lt-ltb (length lent) (length (file form w)) (omega (arith, file-length w write_checked.0.shaped form))) at room_left

  pub write_roomy : needed form w ≤ length lent → DONE ≡ write_verdict form w lent
  unfolding short given first
  write_roomy l = rw (le-ltb (length lent) (length (file form w)) (omega (arith, file-length w write_checked.0.shaped form))) at room_left
