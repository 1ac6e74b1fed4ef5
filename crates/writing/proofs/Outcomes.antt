-- What a writer leaves, by what its checks tell (`refused_left`, `done_left`), and writing a cage's file that is done (`write_done`).
-- Assumes nothing.
use Prim.Native.Nat.{ℕ}
use mathlib.Core.Path.{◌≡◌, refl}
use mathlib.Core.List.{List}
use lib.ListN.{length}
use borrow.Author.Tests.{ne_eqb}
use Rattle.laws.specs.Parts.{in_front}
use Rattle.halfedges.specs.declared.refusal.Refusal.{Refusal}
use Rattle.halfedges.specs.Refusals.{Verdict, DONE, refused, said, filled}
use Rattle.halfedges.proofs.Told.{refused_number}
use Rattle.halfedges.proofs.Checks.{said_refused, said_done}
use Rattle.cagefile.specs.declared.fields.Form.{Form}
use Rattle.cagefile.specs.Fields.{Cage, file}
use Rattle.writing.specs.Writing.{write_verdict, written, write_file}

-- the checks tell the verdict v
module _ {v : Verdict} (bytes lent : List ℕ) where
  pub refused_left : (r : Refusal) → refused r ≡ v → (record { verdict = refused r; values = 0 } ≡ (written v bytes lent).answer) × (lent ≡ (written v bytes lent).file)
  unfolding written filled
  refused_left r e = (said_refused (length bytes) 0 r e, rw (← e, ne_eqb (refused r).number 0 (refused_number r)) refl)

  pub done_left : DONE ≡ v → {size : ℕ} {after : List ℕ} → size ≡ length bytes → after ≡ in_front bytes lent
      → (record { verdict = DONE; values = size } ≡ (written v bytes lent).answer) × (after ≡ (written v bytes lent).file)
  unfolding written filled
  done_left e s f = (said_done (length bytes) 0 e s, rw (← e) f)

-- what writing leaves where it is done
pub write_done : (form : Form) (w : Cage) (lent : List ℕ) → write_verdict form w lent ≡ DONE
    → write_file form w lent ≡ record { answer = record { verdict = DONE; values = length (file form w) }; file = in_front (file form w) lent }
unfolding write_file written said filled
write_done form w lent e = rw e
