-- `share` makes the share that its definition names, by which weight it is.
use Prim.Native.Nat.{◌^◌}
use mathlib.Core.Path.{sym, ap, ◌∙◌}
use Rattle.points.specs.Weights.{share}
use Rattle.points.proofs.weights.Weight.share.Goals as goal

pub returns-in-Short : goal.returns-in-Short
returns-in-Short c = ap (λ w. share w c.args.corners) (sym c.in-Short.is)

pub returns-in-Paper : goal.returns-in-Paper
returns-in-Paper c =
    let n = c.args.corners in
    ap (λ k. record { part = k; whole = 2 ^ 24 }) c.entry.ensures ∙ ap (λ w. share w n) (sym c.in-Paper.is)
