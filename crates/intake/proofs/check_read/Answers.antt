-- The cage at the tables' fronts is checked, with a crease number for each edge.
use Rattle.intake.specs.Internal.Steps.{front_checked}
use Rattle.intake.proofs.check_read.Goals as goal

pub returns : goal.returns
unfolding front_checked
returns c = rw c.count_edges-edges.ensures at c.check.ensures
