-- The room's line is its word, the pair of its first sums, each with a space after it, and the third.
use Prim.Native.Nat.{ℕ, ◌+◌, ◌≤◌}
use mathlib.Core.List.{List, [], ◌∷◌}
use native.Mathlib.Omega.{arith}
use lib.ListN.{length}
use Rattle.text.specs.Lines.{ascii, decimal, space, newline, ended, line}
use Rattle.text.specs.Internal.Put.{Put}
use Rattle.text.proofs.Texts.{put_then, put_words}
use Rattle.text.proofs.lines.put_room.Goals as goal

-- a pair with a space after it, and a third number, which ends the line
sums_put : {a b c : List ℕ} {i j k m n : ℕ} (h v e : ℕ) → i ≤ length a → Put a i m (ended space (decimal h ∷ decimal v ∷ [])) b j → Put b j n (line (decimal e ∷ [])) c k → Put a i (m + n) (line (decimal h ∷ decimal v ∷ decimal e ∷ [])) c k
sums_put h v e = put_words newline (decimal h) (decimal v ∷ []) (decimal e) []

pub returns : goal.returns
returns c =
    put_then (ascii "room") (omega arith) c.put_word-named.ensures (sums_put _ _ _ (omega arith) c.put_pair-next.ensures c.put_number.ensures)
