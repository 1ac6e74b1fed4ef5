-- `copy_tables` hands each payload to a copier, at the offset where the definition reads it.
use mathlib.Core.Path.{ap, ◌∙◌}
use Rattle.laws.specs.Parts.{in_front}
use Rattle.filechecks.proofs.Places.{twins_at, verts_at, edges_at}
use Rattle.reading.proofs.copy_tables.Goals as goal

pub returns : goal.returns
returns c =
    let h = c.halfedges_in-halfedges.ensures.0 in
    let s = c.args in (
      c.copy_twins.ensures ∙ ap (λ t. in_front t s.twin.now) (twins_at _ _ h),
      c.copy_numbers.ensures ∙ ap (λ t. in_front t s.vert.now) (verts_at _ _ h),
      c.copy_numbers-2.ensures ∙ ap (λ t. in_front t s.edge.now) (edges_at _ _ h),
    )
