-- `put_file` puts the head and, over the part after it, the facets.
use mathlib.Core.Path.{sym}
use Rattle.stl.proofs.FacetLaws.{file-length, file-written}
use Rattle.stl.proofs.file.put_file.Goals as goal

pub returns : goal.returns
returns c =
    let s = c.args in
    let v = s.vert.now in
    let p = s.points.now in
    (sym (file-length v p), file-written v p s.file.now _ _ c.put_head.ensures c.put_facets.ensures)
