-- The field is its head and, over the part after it, the coordinates.
use Prim.Native.Nat.{◌*◌}
use mathlib.Core.List.{map, flat_map}
use lib.ListN.{length}
use Rattle.cagefile.specs.Numbers.{u32, twos}
use Rattle.cagefile.specs.Fields.{Head}
use mathlib.Core.Path.{refl}
use native.Mathlib.Omega.{arith}
use Rattle.writing.proofs.FieldWriting.{field-written}
use Rattle.writing.proofs.write_points.Goals as goal

pub returns : goal.returns
returns c =
    let s = c.args in
    let head : Head = record { tag = 0x30; size = 4 * length s.points.now } in
    (refl, field-written s.file.now _ _ (flat_map u32 (map twos s.points.now)) s.at head (omega arith) c.put_head.ensures c.put_points.ensures)
