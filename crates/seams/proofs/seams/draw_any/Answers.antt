-- `draw_any` passes over the edges that come of none of the cage's.
use mathlib.Core.Path.{sym}
use native.Mathlib.Omega.{arith}
use Rattle.seams.proofs.Numbers.{past_none}
use Rattle.seams.proofs.Seaming.{seam_none}
use Rattle.seams.proofs.seams.draw_any.Goals as goal

pub returns-else-level-halfedge : goal.returns-else-level-halfedge
returns-else-level-halfedge c =
    sym (seam_none _ _ _ _ _ _ _ _ _ (past_none _ _ _ (omega (arith, c.requires.3))))
