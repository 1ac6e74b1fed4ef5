-- `put_floats` puts three words end to end.
use Prim.Native.Nat.{◌+◌}
use mathlib.Core.Path.{refl, ◌∙◌}
use mathlib.Core.List.{◌++◌}
use native.Mathlib.Omega.{arith}
use Rattle.laws.proofs.Splice.{splice_more}
use Rattle.stl.specs.Internal.Facets.{float_bytes}
use Rattle.stl.proofs.facets.put_floats.Goals as goal

pub returns : goal.returns
unfolding float_bytes
returns c =
    let s = c.args in
    let p = s.part.now in
    c.put_word-3.ensures
    ∙ splice_more p _ (float_bytes s.x ++ float_bytes s.y) (float_bytes s.z) s.at (s.at + 8)
    (c.put_word-2.ensures
    ∙ splice_more p _ (float_bytes s.x) (float_bytes s.y) s.at (s.at + 4) c.put_word.ensures refl (omega arith))
    refl (omega arith)
