-- A level's line is its counts with a space after them, and B.
use native.Mathlib.Omega.{arith}
use Rattle.lister.proofs.Lines.{level-put}
use Rattle.lister.proofs.listing.put_level.Goals as goal

pub returns : goal.returns
returns c =
    let s = c.args in
    level-put s.counts s.borders (omega arith) c.put_counts-next.ensures c.put_number.ensures
