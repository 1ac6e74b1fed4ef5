-- `clear_sums` fills the cells that its definition makes 0 one by one.
use Prim.Native.Nat.{◌*◌}
use mathlib.Core.Path.{ap, ◌∙◌}
use native.Mathlib.Omega.{arith}
use lib.IntN.{pos}
use lib.ListN.{replicate}
use Rattle.std.proofs.lemmas.List.Edits.{length-between}
use Rattle.spokes.proofs.Cleared.{filled_is}
use Rattle.spokes.proofs.sums.clear_sums.Goals as goal

pub returns : goal.returns
returns c =
    let n = c.args.vertices in
    filled_is n c.args.points.now c.requires (omega arith)
    (c.fill.ensures.after (λ y e. e) ∙ ap (λ k. replicate k (pos 0)) (length-between c.args.points.now (3 * n) (6 * n) c.requires))
