-- The lines of the levels, then the room.
use native.Mathlib.Omega.{arith}
use Rattle.text.proofs.Texts.{put_more, put_within}
use Rattle.lister.specs.Listing.{level_lines}
use Rattle.lister.proofs.listing.put_levels.Goals as goal

pub returns : goal.returns
unfolding level_lines
returns c =
    put_within (omega arith) (put_more (omega arith) c.put_lines-next.ensures c.put_room.ensures)
