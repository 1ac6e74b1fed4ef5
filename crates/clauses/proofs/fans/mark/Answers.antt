-- `mark` marks one halfedge of the walk with each turn.
use Prim.Native.Nat.{suc, ◌+◌, ◌-◌, ◌<◌}
use mathlib.Core.Path.{◌≡◌, sym, ◌∙◌}
use native.Mathlib.Numerals.{add-one}
use native.Mathlib.Omega.{arith}
use lib.ListN.{length, length-set}
use Rattle.clauses.proofs.Marking.{Going, going_start, going_on, going_end, going_round, going_out}
use Rattle.clauses.proofs.fans.mark.Goals as goal
use Rattle.clauses.proofs.fans.mark.Goals.{In-loop-turn}

-- one halfedge at least is left to go
left : (c : In-loop-turn) → Going c.args.twin.now c.args.along c.args.corner c.args.marks.now c.loop-turn.marks c.loop-turn.at c.loop-turn._turn (suc (length c.args.twin.now - c.loop-turn._turn))
left c = let e : length c.args.twin.now + 1 - c.loop-turn._turn ≡ suc (length c.args.twin.now - c.loop-turn._turn) = omega arith in rw e at c.loop-turn.invariant

inside : (c : In-loop-turn) → c.loop-turn.at < length c.loop-turn.marks
inside c = let r = c.loop-turn.invariant in omega (arith, r.inside, r.long, c.requires.2)

pub loop-turn-init : goal.loop-turn-init
loop-turn-init c = going_start _ _ _ _ _ c.requires.1 (omega arith)

pub offset_bounds-marks-at : goal.offset_bounds-marks-at
offset_bounds-marks-at c = omega (arith, inside c)

pub bounds-marks-at : goal.bounds-marks-at
bounds-marks-at c = inside c

pub step-other-requires : goal.step-other-requires
step-other-requires c = (c.requires.0, c.loop-turn.invariant.inside)

pub shape_of-marks-then-other : goal.shape_of-marks-then-other
shape_of-marks-then-other c = simp length-set c.loop-turn.invariant.long

pub returns-then-other : goal.returns-then-other
returns-then-other c = going_end c.requires.2 (left (goal.at.returns-then-other c).In-loop-turn) (sym c.step-other.ensures ∙ c.if-other.true)

pub shape_of-marks-then-at-corner : goal.shape_of-marks-then-at-corner
shape_of-marks-then-at-corner c = simp length-set c.loop-turn.invariant.long

pub returns-then-at-corner : goal.returns-then-at-corner
returns-then-at-corner c =
    let q = c.step-other.ensures in
    going_round c.requires.2 (left (goal.at.returns-then-at-corner c).In-loop-turn) (λ m. c.if-other.false (q ∙ m)) (sym q ∙ c.if-at-corner.true)

pub returns-else-at-corner : goal.returns-else-at-corner
returns-else-at-corner c =
    let e : length c.args.twin.now - c.loop-turn._turn ≡ 0 = omega arith in
    let q = c.step-other.ensures in
    going_out (rw e at (going_on c.requires.2 (left (goal.at.returns-else-at-corner c).In-loop-turn) c.requires.0 (λ m. c.if-other.false (q ∙ m))))

pub loop-turn-preserved : goal.loop-turn-preserved
loop-turn-preserved c =
    let i = c.loop-turn in
    let e : length c.args.twin.now + 1 - (i._turn + 1) ≡ length c.args.twin.now - i._turn = omega arith in
    let q = c.step-other.ensures in
    rw (e, q, add-one i._turn) (going_on c.requires.2 (left (goal.at.loop-turn-preserved c).In-loop-turn) c.requires.0 (λ m. c.if-other.false (q ∙ m)))

pub shape_of-marks : goal.shape_of-marks
shape_of-marks c = c.loop-turn.invariant.long

pub returns : goal.returns
returns c =
    let e : length c.args.twin.now + 1 - c.loop-turn._turn ≡ 0 = omega arith in
    going_out (rw e at c.loop-turn.invariant)
