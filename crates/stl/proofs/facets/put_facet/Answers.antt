-- `put_facet` puts the normal, the corners and the word end to end.
use mathlib.Core.Path.{refl}
use mathlib.Core.List.{List, ◌++◌, flat_map}
use Prim.Native.Nat.{ℕ}
use lib.Ieee.{Float}
use Rattle.cagefile.specs.Numbers.{u16}
use Rattle.stl.specs.Internal.Facets.{float_bytes}
use Rattle.stl.proofs.FacetLaws.{five_written}
use borrow.Author.Rules.{rules}
use Rattle.stl.proofs.facets.put_facet.Goals as goal

abbrev three : Float → Float → Float → List ℕ
three x y z = float_bytes x ++ (float_bytes y ++ float_bytes z)

pub put_floats-requires : goal.put_floats-requires
put_floats-requires c =
    (search rules, c.requires.1 0, c.requires.1 1, c.requires.1 2)

pub put_floats-requires-2 : goal.put_floats-requires-2
put_floats-requires-2 c =
    (search rules, c.requires.1 3, c.requires.1 4, c.requires.1 5)

pub put_floats-requires-3 : goal.put_floats-requires-3
put_floats-requires-3 c =
    (search rules, c.requires.1 6, c.requires.1 7, c.requires.1 8)

pub put_floats-requires-4 : goal.put_floats-requires-4
put_floats-requires-4 c =
    (search rules, c.requires.1 9, c.requires.1 10, c.requires.1 11)

pub returns : goal.returns
unfolding flat_map float_bytes
returns c =
    let s = c.args in
    let f = s.facet in
    five_written s.part.now _ _ _ _ _
    (three f.nx f.ny f.nz) (three f.ax f.ay f.az) (three f.bx f.by f.bz) (three f.cx f.cy f.cz) (u16 0)
    refl refl refl refl
    c.put_floats.ensures c.put_floats-2.ensures c.put_floats-3.ensures c.put_floats-4.ensures c.put_number.ensures
