-- The field is its head and, over the part after it, the table's numbers.
use Prim.Native.Nat.{◌*◌}
use mathlib.Core.List.{flat_map}
use lib.ListN.{length}
use Rattle.cagefile.specs.Numbers.{u16}
use Rattle.cagefile.specs.Fields.{Head}
use mathlib.Core.Path.{refl}
use native.Mathlib.Omega.{arith}
use Rattle.writing.proofs.FieldWriting.{field-written}
use Rattle.writing.proofs.write_table.Goals as goal

pub returns : goal.returns
returns c =
    let s = c.args in
    let head : Head = record { tag = s.tag; size = 2 * length s.table.now } in
    (refl, field-written s.file.now _ _ (flat_map u16 s.table.now) s.at head (omega arith) c.put_head.ensures c.put_numbers.ensures)
