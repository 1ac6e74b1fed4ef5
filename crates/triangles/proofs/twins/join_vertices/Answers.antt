-- `join_vertices` joins one vertex after the other.
use mathlib.Core.Path.{◌≡◌}
use native.Mathlib.Omega.{arith}
use Rattle.alike.specs.Internal.Alike.{bound}
use Rattle.triangles.proofs.Doubles.{undoubled}
use Rattle.triangles.proofs.Joins.{built_on, built-place, built-twins}
use Rattle.triangles.proofs.twins.join_vertices.Goals as goal
use Rattle.triangles.proofs.twins.join_vertices.Goals.{At-loop-vertex, In-loop-vertex, Start}

pub loop-vertex-preserved : goal.loop-vertex-preserved
loop-vertex-preserved c = built_on c.requires.ended.0 _ _ c.join_corners-place.ensures c.loop-vertex.invariant

pub returns : goal.returns
returns c =
    let i = c.loop-vertex in
    let e : i.vertex ≡ bound = omega (arith, c.requires.ended.1.buckets) in
    let b = rw e at i.invariant in
    let p = built-place c.requires.ended.0 b in
    record { first = p; twins = λ l. built-twins c.requires.ended.0 b (undoubled _ (omega (arith, l, p))) i.auto.twin c.requires.bound_in_bounds.1 }
