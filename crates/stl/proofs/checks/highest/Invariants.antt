use Rattle.std.proofs.Common.{ℕ, ◌<◌, ◌≤◌}
use Rattle.halfedges.specs.Cage.{cell}
use Rattle.stl.proofs.checks.highest.Given as goal

abbrev pub invariant-loop-corner : goal.invariant-loop-corner
invariant-loop-corner l = (h : ℕ) → h < l.corner-index → cell l.vert h ≤ l.most
