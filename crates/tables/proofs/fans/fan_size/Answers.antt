-- `fan_size` counts the halfedges met against the links; where the walk is round, these are all, and where it ends at a border, that is joined with the start.
use Prim.Native.Nat.{◌+◌}
use mathlib.Core.Path.{refl, sym, ◌∙◌}
use native.Mathlib.Omega.{arith}
use Rattle.tables.proofs.Walks.{against, Walked, start, last_below, few_met, against_on, against_round, against_border}
use Rattle.tables.proofs.fans.fan_size.Goals as goal
use Rattle.tables.proofs.fans.fan_size.Goals.{Else-corner-halfedge}

-- one halfedge more
behind : (c : Else-corner-halfedge) → Walked c.args.twin.now against c.args.halfedge (c.loop-other.size + 1) c.next-corner.result
behind c =
    let i = c.loop-other.invariant in
    rw c.next-corner.ensures (against_on _ c.requires.0 i.0 i.1 c.loop-other-test.true (λ e. c.if-corner-halfedge.false (c.next-corner.ensures ∙ e)))

pub loop-other-init : goal.loop-other-init
loop-other-init c = (start _ c.requires.0 against _ c.requires.1, refl)

pub next-corner-requires : goal.next-corner-requires
next-corner-requires c =
    let i = c.loop-other.invariant in
    omega (arith, i.1, c.requires.0.few, c.requires.0.paired.below _ (last_below _ c.requires.0 i.0) (λ e. c.loop-other-test.true (i.1 ∙ e)))

pub returns-then-corner-halfedge : goal.returns-then-corner-halfedge
returns-then-corner-halfedge c =
    let i = c.loop-other.invariant in
    against_round _ c.requires.0 i.0 i.1 c.loop-other-test.true (sym c.next-corner.ensures ∙ c.if-corner-halfedge.true)

pub overflow_add-size : goal.overflow_add-size
overflow_add-size c = omega (arith, c.requires.0.few, few_met _ c.requires.0 (behind c))

pub offset_bounds-twin-corner-in-loop-other : goal.offset_bounds-twin-corner-in-loop-other
offset_bounds-twin-corner-in-loop-other c = omega (arith, last_below _ c.requires.0 (behind c))

pub bounds-twin-corner-in-loop-other : goal.bounds-twin-corner-in-loop-other
bounds-twin-corner-in-loop-other c = last_below _ c.requires.0 (behind (goal.at.bounds-twin-corner-in-loop-other c).Else-corner-halfedge)

pub loop-other-smaller : goal.loop-other-smaller
loop-other-smaller c = omega (arith, few_met _ c.requires.0 (behind (goal.at.loop-other-smaller c).Else-corner-halfedge))

pub loop-other-preserved : goal.loop-other-preserved
loop-other-preserved c = (behind (goal.at.loop-other-preserved c).Else-corner-halfedge, refl)

pub open_fan_size-requires : goal.open_fan_size-requires
open_fan_size-requires c = let i = c.loop-other.invariant in (c.requires.0, last_below _ c.requires.0 i.0, sym i.1 ∙ c.loop-other-test.false)

pub returns : goal.returns
returns c = c.open_fan_size.ensures ∙ against_border _ c.requires.0 c.loop-other.invariant.0
