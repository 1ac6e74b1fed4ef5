-- A refusal's line is its word, a space, and the pair of number and place.
use mathlib.Core.Path.{refl}
use native.Mathlib.Omega.{arith}
use Rattle.text.specs.Lines.{ascii}
use Rattle.text.specs.Replies.{refused}
use Rattle.text.proofs.Texts.{put_then}
use Rattle.text.proofs.replies.put_refusal.Goals as goal

pub returns : goal.returns
unfolding refused
returns c =
    record {
      put = rw (← c.number-number.ensures, ← c.place-place.ensures) (put_then (ascii "refused") (omega arith) c.put_word-next.ensures c.put_pair-length.ensures);
      status = refl;
    }
