-- `check_valences` gives nothing with the short weight, and with the paper's what `check_inside` does, a list of one check.
use mathlib.Core.Path.{sym, ap, ◌∙◌}
use native.Mathlib.Omega.{arith}
use Rattle.halfedges.specs.Refusals.{VALENCE, first}
use Rattle.halfedges.proofs.Checks.{given_alone}
use Rattle.points.specs.Operations.{many_corners, valence_checks}
use Rattle.valences.proofs.check_valences.Goals as goal

pub returns-in-Short : goal.returns-in-Short
unfolding first
returns-in-Short c =
    let a = c.args in
    ap (λ w. first (valence_checks w a.twin.now a.vert.now a.vertices)) (sym c.in-Short.is)

pub returns-in-Paper : goal.returns-in-Paper
returns-in-Paper c =
    let a = c.args in
    c.check_inside.ensures
    ∙ given_alone a.vertices (many_corners a.twin.now a.vert.now) VALENCE (λ k. omega arith)
    ∙ ap (λ w. first (valence_checks w a.twin.now a.vert.now a.vertices)) (sym c.in-Paper.is)
