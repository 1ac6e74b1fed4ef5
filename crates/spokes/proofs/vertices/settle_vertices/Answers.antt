-- `settle_vertices` takes one step of its definition a turn, in the first loop by listed corners and in the second by six, where each
-- weight gives the same.
use Prim.Native.Nat.{◌+◌, ◌-◌, ◌*◌, ◌/◌, ◌<◌}
use mathlib.Core.Path.{◌≡◌, sym, ap, ◌∙◌}
use native.Mathlib.Omega.{arith}
use borrow.Author.Rules.{rules}
use lib.ListN.{length, set}
use Rattle.laws.specs.Internal.Steps.{steps}
use Rattle.laws.proofs.Steps.{steps_none, steps_on, steps_end, steps_add, steps_on_from}
use Rattle.halfedges.specs.Cage.{cell}
use Rattle.points.specs.Internal.Parts.{AsksInside}
use Rattle.points.specs.Internal.Cells.{value}
use Rattle.spokes.specs.Internal.Vertices.{settle}
use Rattle.spokes.proofs.Settled.{settles_on, place_kept, sum_kept, asks_kept, own_known, added_known, settle_is}
use Rattle.spokes.proofs.vertices.settle_vertices.Goals as goal
use Rattle.spokes.proofs.vertices.settle_vertices.Goals.{At-loop-i-2, In-loop-i}

-- the second loop goes on where the first one ended
so_far : (b : At-loop-i-2) → b.loop-i-2.points ≡ steps b.loop-i-2.i (settle b.args.weight b.args.own.now b.args.vertices) b.args.points.now
so_far b =
    let f = settle b.args.weight b.args.own.now b.args.vertices in
    let first = 3 * length b.args.own.now in
    let all : first + (b.loop-i-2.i - first) ≡ b.loop-i-2.i = omega arith in
    let before : b.loop-i.points ≡ steps first f b.args.points.now = steps_end f _ b.loop-i.invariant (omega arith) in
    b.loop-i-2.invariant b.args.weight ∙ ap (steps (b.loop-i-2.i - first) (λ j. f (first + j))) before ∙ sym (steps_add f b.args.points.now first (b.loop-i-2.i - first)) ∙ ap (λ i. steps i f b.args.points.now) all

-- what a turn of the first loop asks
asks_own : (b : In-loop-i) → AsksInside (cell b.args.own.now (b.loop-i.i / 3)) (value b.loop-i.points b.loop-i.i) (value b.loop-i.points (3 * b.args.vertices + b.loop-i.i))
asks_own b =
    let i = b.loop-i.i in
    let turn : b.loop-i.i < 3 * b.args.vertices = omega (arith, b.requires.0) in
    settles_on b.args.weight _ _ _ b.requires.1 i turn (b.requires.2 i turn) (own_known b.args.own.now (i / 3) (omega arith)) b.loop-i.invariant

pub loop-i-init : goal.loop-i-init
loop-i-init c = sym (steps_none _ _)

pub settle_cell-requires : goal.settle_cell-requires
settle_cell-requires c =
    let asks = asks_own (goal.at.settle_cell-requires c).In-loop-i in
    record { room = omega (arith, c.requires.1); callable = λ s p g r u f v. asks_kept asks }

pub loop-i-preserved : goal.loop-i-preserved
loop-i-preserved c =
    let own = c.args.own.now in
    let asks = asks_own (goal.at.loop-i-preserved c).In-loop-i in
    let h = c.settle_cell.ensures in
    steps_on _ _ c.loop-i.i c.loop-i.invariant (settle_is c.args.weight own c.args.vertices c.loop-i.i c.loop-i.points (own_known own (c.loop-i.i / 3) (omega arith)) (h.2 ∙ ap (set c.loop-i.points (3 * c.args.vertices + c.loop-i.i)) (let e = h.1 in search (rules, e, place_kept asks, sum_kept asks))))

pub loop-i-2-init : goal.loop-i-2-init
loop-i-2-init c = λ w. steps_end _ _ (sym (steps_none _ _)) (omega arith)

pub settle_cell-requires-in-loop-i-2 : goal.settle_cell-requires-in-loop-i-2
settle_cell-requires-in-loop-i-2 c =
    let i = c.loop-i-2.i in
    let turn : c.loop-i-2.i < 3 * c.args.vertices = omega arith in
    let asks = settles_on c.args.weight _ _ _ c.requires.1 i turn (c.requires.2 i turn) (added_known c.args.own.now (i / 3) (omega arith)) (so_far (goal.at.settle_cell-requires-in-loop-i-2 c).At-loop-i-2) in
    record { room = omega (arith, c.requires.1); callable = (asks.place, asks.small) }

pub loop-i-2-preserved : goal.loop-i-2-preserved
loop-i-2-preserved c =
    let own = c.args.own.now in
    let added = added_known own (c.loop-i-2.i / 3) (omega arith) in
    let h = c.settle_cell-in-loop-i-2.ensures in
    λ w. steps_on_from (settle w own c.args.vertices) _ (3 * length own) c.loop-i-2.i (omega arith) (c.loop-i-2.invariant w) (settle_is w own c.args.vertices c.loop-i-2.i c.loop-i-2.points added (h.2 ∙ ap (set c.loop-i-2.points (3 * c.args.vertices + c.loop-i-2.i)) (h.1 w)))

pub returns : goal.returns
returns c = steps_end _ _ (so_far (goal.at.returns c).At-loop-i-2) (omega arith)
