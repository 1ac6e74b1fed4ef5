-- `twin_of` asks whether the other is a halfedge, another one, and runs back.
use Prim.Native.Nat.{◌<◌}
use mathlib.Core.Path.{◌≡◌, sym, ◌∙◌}
use native.Mathlib.Omega.{arith}
use lib.ListN.{length}
use Rattle.halfedges.specs.Cage.{NEXT, cell}
use Rattle.triangles.proofs.Doubles.{ends_long, end_at}
use Rattle.triangles.proofs.Crossing.{crossing-far, crossing_self, crossing_from, crossing_to, crossing_is}
use Rattle.triangles.proofs.twins.twin_of.Goals as goal
use Rattle.triangles.proofs.twins.twin_of.Goals.{Start}

module _ (s : Start) where
  long : length s.args.ends.now ≡ length s.args.vert.now
  long = ends_long s.requires.0

  -- where the halfedge ends, and where the other does
  own : cell s.args.ends.now s.args.halfedge ≡ cell s.args.vert.now (NEXT s.args.halfedge)
  own = end_at s.requires.0 s.args.halfedge s.requires.1

  end_of : s.args.other < length s.args.vert.now → cell s.args.ends.now s.args.other ≡ cell s.args.vert.now (NEXT s.args.other)
  end_of l = end_at s.requires.0 s.args.other l

pub returns-then-vert-found : goal.returns-then-vert-found
returns-then-vert-found c = crossing-far _ _ _ c.if-vert-found.true

pub returns-then-found-halfedge : goal.returns-then-found-halfedge
returns-then-found-halfedge c = crossing_self _ _ _ c.if-found-halfedge.true

pub bounds-ends-halfedge : goal.bounds-ends-halfedge
bounds-ends-halfedge c = omega (arith, c.requires.1, long (goal.at.bounds-ends-halfedge c).Start)

pub returns-then-vert-found-2 : goal.returns-then-vert-found-2
returns-then-vert-found-2 c = crossing_from _ _ _ (λ e. c.if-vert-found-2.true (e ∙ sym (own (goal.at.returns-then-vert-found-2 c).Start)))

pub bounds-ends-found : goal.bounds-ends-found
bounds-ends-found c = omega (arith, c.if-vert-found.false, long (goal.at.bounds-ends-found c).Start)

pub returns-then-ends-found : goal.returns-then-ends-found
returns-then-ends-found c = crossing_to _ _ _ (λ q. c.if-ends-found.true (end_of (goal.at.returns-then-ends-found c).Start (omega (arith, c.if-vert-found.false)) ∙ q))

pub returns : goal.returns
returns c =
    let l : c.args.other < length c.args.vert.now = omega (arith, c.if-vert-found.false) in
    crossing_is _ _ _ l record { other = c.if-found-halfedge.false; from = c.if-vert-found-2.false ∙ own (goal.at.returns c).Start; to = sym (end_of (goal.at.returns c).Start l) ∙ c.if-ends-found.false }
