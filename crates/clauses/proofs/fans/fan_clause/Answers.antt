-- `fan_clause` marks from zeros what is joined with the lowest corner.
use native.Mathlib.Omega.{arith}
use lib.ListN.{get_or-replicate}
use Rattle.clauses.specs.Clauses.{fan_clause}
use Rattle.clauses.proofs.Apart.{corner_below, apart_below}
use Rattle.clauses.proofs.fans.fan_clause.Goals as goal
use Rattle.clauses.proofs.fans.fan_clause.Goals.{After-lowest_apart-other, After-lowest_corner-corner, Start}

pub mark_joined-requires : goal.mark_joined-requires
mark_joined-requires c =
    let w = c.requires.0 in
    record { walkable = (w, omega (arith, c.lowest_corner-corner.ensures, c.requires.1, corner_below _ _ _ c.requires.2), w.few); by_index = λ h l. get_or-replicate 3072 h 0 0 (omega (arith, w.few)) }

-- what both corners are
module _ (c : After-lowest_apart-other) where
  abbrev corner : After-lowest_corner-corner
  corner = (goal.at.After-lowest_apart-other c).After-lowest_corner-corner

  abbrev start : Start
  start = (goal.at.After-lowest_corner-corner corner).Start

pub overflow_cast-result : goal.overflow_cast-result
overflow_cast-result c = let s = start c in omega (arith, (corner c).lowest_corner-corner.ensures, s.requires.0.few, s.requires.1, corner_below _ _ _ s.requires.2)

pub overflow_cast-result-2 : goal.overflow_cast-result-2
overflow_cast-result-2 c =
    let s = start c in
    omega (arith, rw (corner c).lowest_corner-corner.ensures at c.lowest_apart-other.ensures, s.requires.0.few, s.requires.1, apart_below _ _ _ s.requires.2 s.requires.0 s.requires.1)

pub returns-clause-value : goal.returns-clause-value
unfolding fan_clause
returns-clause-value c = rw (c.lowest_apart-other.ensures, (corner c).lowest_corner-corner.ensures)
