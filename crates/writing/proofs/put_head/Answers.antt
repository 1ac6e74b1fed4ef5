-- `put_head` stores the tag and the length side by side.
use Prim.Native.Nat.{◌+◌}
use mathlib.Core.Path.{refl, ◌∙◌}
use mathlib.Core.List.{[], ◌∷◌}
use native.Mathlib.Omega.{arith}
use lib.ListN.{length-set}
use Rattle.laws.proofs.Splice.{splice_one, splice_more}
use Rattle.cagefile.specs.Numbers.{u16}
use Rattle.writing.proofs.put_head.Goals as goal

pub put_number-requires : goal.put_number-requires
put_number-requires c = simp length-set (omega arith)

pub shape_of-file : goal.shape_of-file
shape_of-file c = c.put_number.auto.part ∙ length-set c.args.file.now _ _

pub returns : goal.returns
returns c =
    let s = c.args in
    c.put_number.ensures
    ∙ splice_more s.file.now _ (s.tag ∷ []) (u16 s.size) s.at (s.at + 1) (splice_one s.file.now s.at s.tag (omega arith)) refl (omega arith)
