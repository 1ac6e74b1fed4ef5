-- `edge_clause` goes through the clauses of rule 6 in order; where two do not hold the third does, and there is a stranger.
use Prim.Native.Nat.{◌<◌}
use native.Mathlib.Omega.{arith}
use lib.ListN.{length}
use Rattle.halfedges.specs.Cage.{cell, E}
use Rattle.tables.proofs.EdgeCount.{edges_at_most}
use Rattle.clauses.proofs.Broken.{edge_past_lem, edge_differs_lem, Alike, alone, paired, stranger_below, edge_shared_lem}
use Rattle.clauses.proofs.rules.edge_clause.Goals as goal
use Rattle.clauses.proofs.rules.edge_clause.Goals.{else-t, then-t+else-twins-own, Else-edges-own, Joined-t, Start, Then-t}

-- where the edge is in range
module _ (i : Else-edges-own) where
  abbrev start : Start
  start = (goal.at.Else-edges-own i).Start

  low : cell start.args.edge.now start.args.halfedge < E start.args.twin.now
  low = rw i.count_edges-edges.ensures at i.if-edges-own.false

twin_inside : (c : Then-t) →
    let s = start (goal.at.Then-t c).Else-edges-own in
    cell s.args.twin.now s.args.halfedge < length s.args.edge.now
twin_inside c =
    let s = start (goal.at.Then-t c).Else-edges-own in
    omega (arith, s.requires.0.long, s.requires.0.paired.below _ s.requires.1.below c.if-t.true)

pub overflow_cast-result : goal.overflow_cast-result
overflow_cast-result c =
    omega (arith, c.count_edges-edges.ensures, c.requires.0.few, edges_at_most c.args.twin.now)

pub returns-then-edges-own-clause-value : goal.returns-then-edges-own-clause-value
returns-then-edges-own-clause-value c =
    rw c.count_edges-edges.ensures (edge_past_lem _ _ _ (rw c.count_edges-edges.ensures at c.if-edges-own.true))

pub offset_bounds-edge-other : goal.offset_bounds-edge-other
offset_bounds-edge-other c = omega (arith, twin_inside (goal.at.offset_bounds-edge-other c).Then-t)

pub bounds-edge-other : goal.bounds-edge-other
bounds-edge-other c = twin_inside (goal.at.bounds-edge-other c).Then-t

pub returns-then-twins-own-clause-value : goal.returns-then-twins-own-clause-value
returns-then-twins-own-clause-value c =
    edge_differs_lem _ _ _ (low (goal.at.returns-then-twins-own-clause-value c).Else-edges-own) c.if-t.true c.if-twins-own.true

-- where the twin does not differ
module _ (j : Joined-t) where
  abbrev begun : Start
  begun = start (goal.at.Joined-t j).Else-edges-own

  alike : Alike begun.args.twin.now begun.args.edge.now begun.args.halfedge
  alike =
      elim j.if-t.branch [
        | then-t+else-twins-own w ↦ paired w.if-t.true w.if-twins-own.false
        | else-t w ↦ alone w.if-t.false
      ]

pub overflow_cast-result-2 : goal.overflow_cast-result-2
overflow_cast-result-2 c =
    let s = begun (goal.at.overflow_cast-result-2 c).Joined-t in
    omega (arith, c.lowest_stranger-stranger.ensures, s.requires.0.few, s.requires.0.long, stranger_below _ _ _ (low (goal.at.overflow_cast-result-2 c).Else-edges-own) s.requires.1.broken (alike (goal.at.overflow_cast-result-2 c).Joined-t))

pub returns-clause-value : goal.returns-clause-value
returns-clause-value c =
    rw c.lowest_stranger-stranger.ensures (edge_shared_lem _ _ _ (low (goal.at.returns-clause-value c).Else-edges-own) (begun (goal.at.returns-clause-value c).Joined-t).requires.1.broken (alike (goal.at.returns-clause-value c).Joined-t))
