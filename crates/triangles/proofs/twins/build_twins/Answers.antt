-- `build_twins` tells whether the place is a halfedge.
use native.Mathlib.Omega.{arith}
use lib.ListN.{length}
use Rattle.laws.proofs.Lowest.{lowest_within}
use Rattle.triangles.specs.Plain.{doubled}
use Rattle.triangles.proofs.twins.build_twins.Goals as goal

pub returns-then-place-vert : goal.returns-then-place-vert
returns-then-place-vert c = record { err = (c.if-place-vert.true, c.find_twins-place.ensures.first); ok = tt }

pub returns : goal.returns
returns c =
    let e = c.find_twins-place.ensures in
    record { err = tt; ok = (omega (arith, e.first, c.if-place-vert.false, lowest_within (length c.args.vert.now) (doubled c.args.vert.now)), e.twins c.if-place-vert.false) }
