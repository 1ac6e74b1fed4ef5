-- A number is its digits, and what stands after them.
use native.Mathlib.Omega.{arith}
use Rattle.text.proofs.Texts.{put_more}
use Rattle.text.proofs.lines.put_number.Goals as goal

pub returns : goal.returns
returns c = put_more (omega arith) c.put_digits-next.ensures c.put_byte.ensures
