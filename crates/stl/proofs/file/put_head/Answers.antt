-- `put_head` puts the count after the zeros.
use mathlib.Core.Path.{sym, ap, ◌∙◌}
use mathlib.Core.List.{◌++◌}
use native.Mathlib.Omega.{arith}
use lib.ListN.{drop}
use lib.Seq.{length-take-le}
use Rattle.stl.proofs.FacetLaws.{head-written}
use Rattle.stl.proofs.file.put_head.Goals as goal

pub slice_bounds-fill-end-2 : goal.slice_bounds-fill-end-2
slice_bounds-fill-end-2 c = sym (length-take-le 80 c.args.file.now (omega arith))

pub returns : goal.returns
returns c =
    let zeros = rw (length-take-le 80 c.args.file.now (omega arith)) at (c.fill.ensures.after (λ y e. e)) in
    c.put_word.ensures ∙ head-written _ _ _ (ap (λ t. t ++ drop 80 c.args.file.now) zeros)
