-- `found` counts the edges and the border from the twins.
use Rattle.tables.specs.Check.{returned}
use Rattle.tables.proofs.check.found.Goals as goal

pub returns : goal.returns
unfolding returned
returns c = rw (c.count_edges.ensures, c.count_borders.ensures)
