-- `ask` refuses by its checks, and else answers what it climbs to.
use Rattle.halfedges.proofs.Told.{handed_on}
use Rattle.halfedges.proofs.Checks.{said_refused, said_done}
use Rattle.climbing.specs.Halfedge.{halfedge_question}
use Rattle.climbing.proofs.Outcomes.{climbable, in_level}
use Rattle.climbing.proofs.ask.Goals as goal

pub returns-in_err-check_asked : goal.returns-in_err-check_asked
unfolding halfedge_question
returns-in_err-check_asked c = rw (handed_on c.from_residual.ensures) (said_refused _ _ _ c.in_err-check_asked.ensures)

pub climb-requires : goal.climb-requires
climb-requires c = (
  climbable _ _ _ _ c.in_ok-check_asked.ensures c.counts_of-counts.ensures,
  in_level _ _ _ _ c.in_ok-check_asked.ensures c.counts_of-counts.ensures,
)

pub returns : goal.returns
unfolding halfedge_question
returns c = said_done _ _ c.in_ok-check_asked.ensures (rw c.counts_of-counts.ensures at c.climb.ensures)
