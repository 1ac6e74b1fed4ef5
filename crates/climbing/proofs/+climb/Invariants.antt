-- `climb` ends because the depth falls.
use Rattle.climbing.proofs.+climb.Given as goal

abbrev pub decreases-climb : goal.decreases-climb
decreases-climb l = l.depth
