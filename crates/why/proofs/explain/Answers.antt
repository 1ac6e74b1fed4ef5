-- `explain` names the clause of what the check refuses by, which has found enough for it.
use mathlib.Core.Path.{◌≡◌, sym, ap}
use Rattle.halfedges.specs.Refusals.{refused, said}
use Rattle.tables.specs.Tables.{held}
use Rattle.points.specs.Operations.{check_creased}
use Rattle.why.specs.Why.{why_cage}
use Rattle.why.proofs.Found.{found}
use Rattle.why.proofs.Named.{accepted_none}
use Rattle.why.proofs.explain.Goals as goal
use Rattle.why.proofs.explain.Goals.{In-Err}

-- what the check told
same : (c : In-Err) → refused c.in-Err.refusal ≡ (check_creased (held c.args.cage.now.tables) c.args.cage.now.creases.now c.args.cage.now.points.now).verdict
same c = ap (λ s. s.verdict) c.in-Err.ensures

pub returns-in-Ok : goal.returns-in-Ok
returns-in-Ok c = sym (accepted_none _ _ _ (sym (ap (λ s. s.verdict) c.in-Ok.ensures)))

pub clause_at-requires : goal.clause_at-requires
unfolding check_creased said
clause_at-requires c =
    rw (c.vertices.ensures, same (goal.at.clause_at-requires c).In-Err) (found _ c.args.cage.now.creases.now c.args.cage.now.points.now)

pub returns-in-Some : goal.returns-in-Some
unfolding why_cage
returns-in-Some c =
    rw (c.place-place.ensures, c.in-Some.ensures.rule, c.in-Some.ensures.value, c.vertices.ensures, same (goal.at.returns-in-Some c).In-Err)

pub returns-in-None : goal.returns-in-None
unfolding why_cage
returns-in-None c =
    rw (c.in-None.ensures.value, c.vertices.ensures, same (goal.at.returns-in-None c).In-Err)
