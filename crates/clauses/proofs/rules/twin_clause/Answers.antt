-- `twin_clause` goes through the clauses of rule 3 in order; where two do not hold the third does.
use Rattle.clauses.proofs.Broken.{twin_past_lem, twin_itself_lem, twin_lost}
use Rattle.clauses.proofs.rules.twin_clause.Goals as goal
use Rattle.clauses.proofs.rules.twin_clause.Goals.{Else-twin-other, Start}

pub returns-then-twin-other-clause-value : goal.returns-then-twin-other-clause-value
returns-then-twin-other-clause-value c =
    twin_past_lem _ _ c.requires.1.broken c.if-twin-other.true

pub returns-then-other-halfedge-clause-value : goal.returns-then-other-halfedge-clause-value
returns-then-other-halfedge-clause-value c = twin_itself_lem _ _ c.requires.1.broken c.if-twin-other.false c.if-other-halfedge.true

pub returns-clause-value : goal.returns-clause-value
returns-clause-value c =
    twin_lost _ _ c.requires.1.broken c.if-twin-other.false c.if-other-halfedge.false
