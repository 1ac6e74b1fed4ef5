use Rattle.alike.proofs.Chains.{At}
use Rattle.triangles.specs.Internal.Joining.{Joined}
use Rattle.triangles.proofs.twins.join_corners.Given as goal

abbrev pub invariant-loop-end : goal.invariant-loop-end
invariant-loop-end l =
    At l.vert l.vertex l.end × Joined l.vert l.ends l.vertex l.end l.place l.initial.twin l.lowest l.twin

abbrev pub decreases-loop-end : goal.decreases-loop-end
decreases-loop-end l = l.end
