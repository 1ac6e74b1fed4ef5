-- `clause_at` asks for the clause of the rule that is broken, which relies on what the check has found by then.
use mathlib.Core.Path.{refl}
use native.Mathlib.Omega.{arith}
use Rattle.clauses.proofs.Explained.{walkable}
use Rattle.clauses.proofs.clause_at.Goals as goal

pub twin_clause-requires : goal.twin_clause-requires
twin_clause-requires c = (rw (c.in-Err.is, c.in-Twin.is) at c.requires).twin_at refl

pub vertex_clause-requires : goal.vertex_clause-requires
vertex_clause-requires c =
    let r = (rw (c.in-Err.is, c.in-Vertex.is) at c.requires).vertex_at refl in
    record { for_vertices = (record { paired = r.0.paired; whole = r.0.shaped.whole; long = r.0.shaped.vert_long }, r.0.few, r.0.room); broken_at = r.1 }

pub overflow_cast-result : goal.overflow_cast-result
overflow_cast-result c =
    let r = (rw (c.in-Err.is, c.in-Unused.is) at c.requires).unused_at refl in
    omega (arith, r.0.room, r.1.below)

pub edge_clause-requires : goal.edge_clause-requires
edge_clause-requires c =
    let r = (rw (c.in-Err.is, c.in-Edge.is) at c.requires).edge_at refl in
    (record { paired = r.0.paired; long = r.0.shaped.edge_long; few = r.0.few }, r.1)

pub fan_clause-requires : goal.fan_clause-requires
fan_clause-requires c =
    let r = (rw (c.in-Err.is, c.in-Fan.is) at c.requires).fan_at refl in
    (walkable r.0, r.0.shaped.vert_long, r.1.broken)
