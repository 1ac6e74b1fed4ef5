-- `put_facets` has the facets before the triangle put, and that triangle's filled.
use borrow.Author.Rules.{rules}
use Prim.Native.Nat.{ℕ, ◌+◌, ◌-◌}
use mathlib.Core.Path.{◌≡◌, refl, ap, ◌∙◌}
use mathlib.Core.List.{List}
use native.Mathlib.Omega.{arith}
use lib.IntN.{ℤ}
use lib.ListN.{length}
use Rattle.laws.specs.Parts.{in_front}
use Rattle.halfedges.specs.Cage.{F}
use Rattle.halfedges.specs.Corners.{corners}
use Rattle.stl.proofs.FacetLaws.{triangle_placed, filled_as, facet_numbers, facet_bytes_lem, facets, facet_written}
use Rattle.stl.proofs.file.put_facets.Goals as goal
use Rattle.stl.proofs.file.put_facets.Goals.{At-loop-triangle, Start}

-- where the loop stands
module _ (l : At-loop-triangle) where
  abbrev start : Start
  start = (goal.at.At-loop-triangle l).Start

  abbrev vert : List ℕ
  vert = start.args.vert.now

  abbrev points : List ℤ
  points = start.args.points.now

pub facet_of-facet-requires : goal.facet_of-facet-requires
facet_of-facet-requires c =
    (triangle_placed c.args.vert.now c.args.points.now c.requires.0.drawn 0 (omega arith) c.corners_of.ensures, c.requires.0.drawn.ranged)

pub loop-triangle-init : goal.loop-triangle-init
loop-triangle-init c = (refl, filled_as c.corners_of.ensures c.facet_of-facet.ensures)

pub facet_of-next-requires : goal.facet_of-next-requires
facet_of-next-requires c =
    (triangle_placed (vert (goal.at.facet_of-next-requires c).At-loop-triangle) (points (goal.at.facet_of-next-requires c).At-loop-triangle) (start (goal.at.facet_of-next-requires c).At-loop-triangle).requires.0.drawn (c.loop-triangle.triangle + 1) (omega arith) c.corners_of-in-loop-triangle.ensures, (start (goal.at.facet_of-next-requires c).At-loop-triangle).requires.0.drawn.ranged)

pub put_facet-requires : goal.put_facet-requires
put_facet-requires c =
    (search rules, facet_numbers (start (goal.at.put_facet-requires c).At-loop-triangle).requires.0.drawn.ranged c.loop-triangle.invariant.1)

pub loop-triangle-preserved : goal.loop-triangle-preserved
loop-triangle-preserved c =
    let e = facet_written (vert (goal.at.loop-triangle-preserved c).At-loop-triangle) (points (goal.at.loop-triangle-preserved c).At-loop-triangle) (start (goal.at.loop-triangle-preserved c).At-loop-triangle).args.part.now c.loop-triangle.part _ _ c.loop-triangle.triangle c.loop-triangle.invariant.0 c.put_facet.ensures (facet_bytes_lem (start (goal.at.loop-triangle-preserved c).At-loop-triangle).requires.0.drawn.ranged c.loop-triangle.invariant.1) in
    (e, filled_as c.corners_of-in-loop-triangle.ensures c.facet_of-next.ensures)

pub put_facet-requires-2 : goal.put_facet-requires-2
put_facet-requires-2 c =
    (search rules, facet_numbers (start (goal.at.put_facet-requires-2 c).At-loop-triangle).requires.0.drawn.ranged c.loop-triangle.invariant.1)

pub returns : goal.returns
returns c =
    let d = (start (goal.at.returns c).At-loop-triangle).args.part.now in
    let n = F (length (vert (goal.at.returns c).At-loop-triangle)) - 1 in
    let last : c.loop-triangle.triangle ≡ n = omega arith in
    let all : n + 1 ≡ F (length (vert (goal.at.returns c).At-loop-triangle)) = omega arith in
    let so_far : c.loop-triangle.part ≡ in_front (facets (vert (goal.at.returns c).At-loop-triangle) (points (goal.at.returns c).At-loop-triangle) n) d = c.loop-triangle.invariant.0 ∙ ap (λ k. in_front (facets (vert (goal.at.returns c).At-loop-triangle) (points (goal.at.returns c).At-loop-triangle) k) d) last in
    let filled = filled_as (ap (corners (vert (goal.at.returns c).At-loop-triangle)) last) c.loop-triangle.invariant.1 in
    facet_written (vert (goal.at.returns c).At-loop-triangle) (points (goal.at.returns c).At-loop-triangle) d c.loop-triangle.part _ _ n so_far c.put_facet-2.ensures (facet_bytes_lem (start (goal.at.returns c).At-loop-triangle).requires.0.drawn.ranged filled)
    ∙ ap (λ k. in_front (facets (vert (goal.at.returns c).At-loop-triangle) (points (goal.at.returns c).At-loop-triangle) k) d) all
