-- The lines of the levels, then the room.
use native.Mathlib.Omega.{arith}
use Rattle.text.proofs.Texts.{put_more, put_within}
use Rattle.counter.specs.Counting.{count_lines}
use Rattle.counter.proofs.counting.put_levels.Goals as goal

pub returns : goal.returns
unfolding count_lines
returns c =
    put_within (omega arith) (put_more (omega arith) c.put_lines-next.ensures c.put_room.ensures)
