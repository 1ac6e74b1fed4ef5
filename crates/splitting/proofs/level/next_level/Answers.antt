-- `next_level` writes the three tables, each by the level as it was.
use Rattle.tables.specs.Tables.{tables}
use Rattle.splitting.specs.Internal.InPlace.{with_next_level}
use Rattle.splitting.proofs.level.next_level.Goals as goal

pub returns-then-at-eq0 : goal.returns-then-at-eq0
unfolding with_next_level
returns-then-at-eq0 c =
    λ i. tables (c.cage_twins.ensures i) (c.next_verts.ensures i) (c.cage_edges.ensures i)

pub returns-else-at-eq0 : goal.returns-else-at-eq0
unfolding with_next_level
returns-else-at-eq0 c =
    λ i. tables (c.twins_above.ensures i) (c.next_verts.ensures i) (c.edges_above.ensures i)
