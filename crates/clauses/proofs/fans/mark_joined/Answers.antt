-- `mark_joined` marks both ways from the corner.
use Rattle.clauses.proofs.Marking.{marked_joined}
use Rattle.clauses.proofs.fans.mark_joined.Goals as goal

pub returns : goal.returns
returns c = marked_joined _ c.requires.walkable.0 _ _ _ _ c.requires.walkable.1 c.requires.walkable.2 c.requires.by_index c.mark.ensures c.mark-2.ensures
