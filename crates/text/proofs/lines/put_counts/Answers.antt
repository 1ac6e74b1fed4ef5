-- A level's numbers are a pair and a number with a space after each, and a pair.
use native.Mathlib.Omega.{arith}
use mathlib.Core.List.{[], ◌∷◌}
use Rattle.halfedges.specs.Cage.{F}
use Rattle.text.specs.Lines.{decimal}
use Rattle.text.proofs.Texts.{put_then, put_words}
use Rattle.text.proofs.lines.put_counts.Goals as goal

pub returns : goal.returns
returns c =
    let s = c.args in
    let faces = decimal (F s.counts.halfedges) ∷ decimal s.counts.vertices ∷ [] in
    put_words s.after (decimal s.counts.level) (decimal s.counts.halfedges ∷ []) (decimal s.counts.edges) faces (omega arith) c.put_pair-halfedges_end.ensures
    (put_then (decimal s.counts.edges) (omega arith) c.put_number-edges_end.ensures c.put_pair.ensures)
