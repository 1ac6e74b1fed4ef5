-- `vertex_clause` goes through the clauses of rule 4 in order; where two do not hold the third does, and there is a twin.
use Prim.Native.Nat.{◌<◌}
use mathlib.Core.Path.{◌≡◌, sym, ap, ◌∙◌}
use mathlib.Core.Logic.{◌≢◌}
use native.Mathlib.Omega.{arith}
use lib.ListN.{length}
use Rattle.halfedges.specs.Cage.{NEXT, cell}
use Rattle.halfedges.proofs.Triangle.{next_below}
use Rattle.clauses.proofs.Broken.{vertex_past_lem, vertex_alike, end_has_twin, vertex_differ}
use Rattle.clauses.proofs.rules.vertex_clause.Goals as goal
use Rattle.clauses.proofs.rules.vertex_clause.Goals.{After-next-next, Else-vertex-end, Else-vertices-vertex, Start}

-- where the vertex is in range
module _ (i : Else-vertices-vertex) where
  abbrev start : Start
  start = (goal.at.Else-vertices-vertex i).Start

  low : cell start.args.vert.now start.args.halfedge < start.args.vertices
  low = i.if-vertices-vertex.false

module _ (n : After-next-next) where
  abbrev begun : Start
  begun = start (goal.at.After-next-next n).Else-vertices-vertex

  next-inside : n.next-next.result < length begun.args.vert.now
  next-inside = omega (arith, n.next-next.ensures, begun.requires.for_vertices.0.long, next_below begun.requires.for_vertices.0.whole begun.requires.broken_at.below)

  end : cell begun.args.vert.now n.next-next.result ≡ cell begun.args.vert.now (NEXT begun.args.halfedge)
  end = ap (cell begun.args.vert.now) n.next-next.ensures

-- where the two ends differ
module _ (i : Else-vertex-end) where
  abbrev after_next : After-next-next
  after_next = (goal.at.Else-vertex-end i).After-next-next

  apart : cell (begun after_next).args.vert.now (begun after_next).args.halfedge ≢ cell (begun after_next).args.vert.now (NEXT (begun after_next).args.halfedge)
  apart e = i.if-vertex-end.false (e ∙ sym (end after_next))

  twin_inside : cell (begun after_next).args.twin.now (begun after_next).args.halfedge < length (begun after_next).args.vert.now
  twin_inside =
      let s = begun after_next in
      omega (arith, s.requires.for_vertices.0.long, s.requires.for_vertices.0.paired.below _ s.requires.broken_at.below (end_has_twin _ _ _ _ (low (goal.at.After-next-next after_next).Else-vertices-vertex) s.requires.broken_at.broken apart))

pub returns-then-vertices-vertex-clause-value : goal.returns-then-vertices-vertex-clause-value
returns-then-vertices-vertex-clause-value c = vertex_past_lem _ _ _ _ c.if-vertices-vertex.true

pub offset_bounds-vert-next : goal.offset_bounds-vert-next
offset_bounds-vert-next c = omega (arith, next-inside c)

pub bounds-vert-next : goal.bounds-vert-next
bounds-vert-next c = next-inside (goal.at.bounds-vert-next c).After-next-next

pub overflow_cast-result-then-vertex-end : goal.overflow_cast-result-then-vertex-end
overflow_cast-result-then-vertex-end c = omega (arith, next-inside (goal.at.overflow_cast-result-then-vertex-end c).After-next-next, (begun (goal.at.overflow_cast-result-then-vertex-end c).After-next-next).requires.for_vertices.0.long, (begun (goal.at.overflow_cast-result-then-vertex-end c).After-next-next).requires.for_vertices.1)

pub returns-then-vertex-end-clause-value : goal.returns-then-vertex-end-clause-value
returns-then-vertex-end-clause-value c = rw c.next-next.ensures (vertex_alike _ _ _ _ (low (goal.at.returns-then-vertex-end-clause-value c).Else-vertices-vertex) (c.if-vertex-end.true ∙ end (goal.at.returns-then-vertex-end-clause-value c).After-next-next))

pub offset_bounds-vert-other : goal.offset_bounds-vert-other
offset_bounds-vert-other c = omega (arith, twin_inside (goal.at.offset_bounds-vert-other c).Else-vertex-end)

pub bounds-vert-other : goal.bounds-vert-other
bounds-vert-other c = twin_inside (goal.at.bounds-vert-other c).Else-vertex-end

pub returns-clause-value : goal.returns-clause-value
returns-clause-value c =
    let n = after_next (goal.at.returns-clause-value c).Else-vertex-end in
    rw n.next-next.ensures (vertex_differ _ _ _ _ (low (goal.at.After-next-next n).Else-vertices-vertex) (begun n).requires.broken_at.broken (apart (goal.at.returns-clause-value c).Else-vertex-end))
