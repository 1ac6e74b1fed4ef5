use Rattle.halfedges.proofs.Checks.{Clean}
use Rattle.tables.specs.Rules.{stranger}
use Rattle.clauses.proofs.rules.lowest_stranger.Given as goal

abbrev pub invariant-loop-place : goal.invariant-loop-place
invariant-loop-place l = Clean l.place (stranger l.twin l.edge l.halfedge)
