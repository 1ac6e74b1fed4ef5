-- `put_saying` keeps what is filled so far, and ends the line.
use borrow.Author.Rules.{rules}
use Prim.Native.Nat.{◌+◌}
use mathlib.Core.Path.{◌≡◌}
use mathlib.Core.Bool.{cond}
use native.Mathlib.Omega.{arith}
use lib.Dec.{eqb}
use lib.ListN.{get_or}
use borrow.Author.Tests.{eq-eqb, ne_eqb}
use Rattle.sentences.specs.Sentences.{hash, saying}
use Rattle.sentences.proofs.Filling.{filled_more, filled_all}
use Rattle.sentences.proofs.put_saying.Goals as goal
use Rattle.sentences.proofs.put_saying.Goals.{then-byte-eq-HASH, else-byte-eq-HASH}

pub loop-byte-preserved : goal.loop-byte-preserved
loop-byte-preserved c =
    let s = c.args in
    let used : c.if-byte-eq-HASH.used ≡ cond (eqb (get_or s.text.now c.loop-byte.byte-index 0) hash) (c.loop-byte.used + 1) c.loop-byte.used = elim c.if-byte-eq-HASH.branch [
      | then-byte-eq-HASH w ↦ rw (eq-eqb _ hash w.if-byte-eq-HASH.true) w.used-is
      | else-byte-eq-HASH w ↦ rw (ne_eqb _ hash w.if-byte-eq-HASH.false) w.used-is
    ] in
    let number : c.unwrap_or-number.result ≡ get_or s.numbers c.loop-byte.used 0 = search rules in
    let put = rw number at c.put_piece-at.ensures in
    filled_more c.if-byte-eq-HASH.used c.loop-byte-test.true c.loop-byte.invariant put used

pub returns : goal.returns
unfolding saying
returns c =
    filled_all (omega arith) c.loop-byte.invariant c.put_byte.ensures
