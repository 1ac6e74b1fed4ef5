-- A word is its bytes, and what stands after them.
use native.Mathlib.Omega.{arith}
use Rattle.text.proofs.Texts.{put_more}
use Rattle.text.proofs.lines.put_word.Goals as goal

pub returns : goal.returns
returns c = put_more (omega arith) c.put_bytes-next.ensures c.put_byte.ensures
