-- The first field is its head and, over the part after it, the counts.
use mathlib.Core.List.{[], ◌∷◌, flat_map}
use Rattle.cagefile.specs.Numbers.{u16}
use Rattle.cagefile.specs.Fields.{number, opening}
use mathlib.Core.Path.{refl}
use native.Mathlib.Omega.{arith}
use Rattle.writing.proofs.FieldWriting.{field-written}
use Rattle.writing.proofs.write_opening.Goals as goal

pub returns : goal.returns
returns c =
    let s = c.args in
    (refl, field-written s.file.now _ _ (flat_map u16 (number s.form ∷ s.halfedges ∷ s.vertices ∷ [])) 0 opening (omega arith) c.put_head.ensures c.put_counts.ensures)
