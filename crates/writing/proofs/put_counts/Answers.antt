-- `put_counts` puts three numbers end to end.
use mathlib.Core.Path.{refl, ap, ◌∙◌}
use mathlib.Core.List.{◌++◌, flat_map}
use Rattle.laws.specs.Internal.Parts.{splice}
use Rattle.laws.proofs.Splice.{over_more}
use Rattle.cagefile.specs.Numbers.{u16}
use Rattle.cagefile.specs.Fields.{number}
use Rattle.writing.proofs.put_counts.Goals as goal

pub returns : goal.returns
unfolding flat_map
returns c =
    let s = c.args in
    let form = u16 (number s.form) in
    let opened = c.put_number.ensures ∙ ap (λ n. splice s.part.now 0 (u16 n)) c.from.ensures in
    c.put_number-3.ensures
    ∙ over_more s.part.now _ (form ++ u16 s.halfedges) (u16 s.vertices) 4
    (c.put_number-2.ensures ∙ over_more s.part.now _ form (u16 s.halfedges) 2 opened refl) refl
