-- A pair is a number, a space, and a number that ends the line.
use native.Mathlib.Omega.{arith}
use Rattle.text.specs.Lines.{decimal}
use Rattle.text.proofs.Texts.{put_then}
use Rattle.text.proofs.lines.put_pair.Goals as goal

pub returns : goal.returns
returns c =
    put_then (decimal c.args.one) (omega arith) c.put_number-next.ensures c.put_number.ensures
