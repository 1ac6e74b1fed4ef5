-- The field is its head and, over the part after it, the bytes.
use lib.ListN.{length}
use Rattle.cagefile.specs.Fields.{Head}
use mathlib.Core.Path.{refl}
use native.Mathlib.Omega.{arith}
use Rattle.writing.proofs.FieldWriting.{field-written}
use Rattle.writing.proofs.write_bytes.Goals as goal

pub returns : goal.returns
returns c =
    let s = c.args in
    let head : Head = record { tag = s.tag; size = length s.bytes.now } in
    (refl, field-written s.file.now _ _ s.bytes.now s.at head (omega arith) c.put_head.ensures c.put_bytes.ensures)
