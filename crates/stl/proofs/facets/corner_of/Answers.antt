-- `corner_of` asks for each coordinate.
use Prim.Native.Nat.{◌+◌, ◌*◌}
use Rattle.stl.proofs.FacetLaws.{unit_kept, point_floats}
use Rattle.stl.proofs.facets.corner_of.Goals as goal

pub coordinate-x-requires : goal.coordinate-x-requires
coordinate-x-requires c =
    let i = 3 * c.args.corner in
    rw (unit_kept c.args.points.now c.requires.1 i) (c.requires.1.at i)

pub coordinate-y-requires : goal.coordinate-y-requires
coordinate-y-requires c =
    let i = 3 * c.args.corner + 1 in
    rw (unit_kept c.args.points.now c.requires.1 i) (c.requires.1.at i)

pub coordinate-z-requires : goal.coordinate-z-requires
coordinate-z-requires c =
    let i = 3 * c.args.corner + 2 in
    rw (unit_kept c.args.points.now c.requires.1 i) (c.requires.1.at i)

pub returns : goal.returns
returns c =
    point_floats c.args.points.now c.requires.1 c.args.corner c.coordinate-x.ensures c.coordinate-y.ensures c.coordinate-z.ensures
