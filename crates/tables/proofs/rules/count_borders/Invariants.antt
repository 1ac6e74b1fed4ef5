use mathlib.Core.Path.{◌≡◌}
use Rattle.laws.specs.Below.{count}
use Rattle.halfedges.specs.Cage.{border}
use Rattle.tables.proofs.rules.count_borders.Given as goal

abbrev pub invariant-loop-other : goal.invariant-loop-other
invariant-loop-other l = l.borders ≡ count l.other-index (border l.twin)
