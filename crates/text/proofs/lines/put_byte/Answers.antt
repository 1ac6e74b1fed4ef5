-- One cell is set.
use Rattle.text.proofs.Texts.{byte_put}
use Rattle.text.proofs.lines.put_byte.Goals as goal

pub returns : goal.returns
returns c = byte_put _ _ _ c.requires
