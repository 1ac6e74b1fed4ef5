-- `read_triangle` reads the three corners, and each halfedge from its own on.
use Prim.Native.Nat.{ℕ, ◌+◌, ◌*◌, ◌≤◌, ◌<◌}
use native.Mathlib.Omega.{arith}
use lib.ListN.{length}
use Rattle.halfedges.specs.Cage.{cell}
use Rattle.halfedges.proofs.Triangle.{next_0, next_1, next_2, prev_0, prev_1, prev_2}
use Rattle.edgepoints.proofs.Writes.{halfedge_is}
use Rattle.edgepoints.proofs.edges.read_triangle.Goals as goal
use Rattle.edgepoints.proofs.edges.read_triangle.Goals.{Start}

module _ (s : Start) (h : ℕ) (le : h ≤ 3 * s.args.triangle + 2) where
  corner-asked : (h < length s.args.level.now.vert.now) × (3 * cell s.args.level.now.vert.now h + 2 < length s.args.points.now)
  corner-asked = let l : h < length s.args.level.now.vert.now = omega (arith, s.requires.in_vert) in (l, s.requires.pointed h l)

  cells-asked : (h < length s.args.level.now.twin.now) × (h < length s.args.level.now.edge.now)
  cells-asked = (omega (arith, s.requires.in_twin), omega (arith, s.requires.in_edge))

pub read_corner-a-requires : goal.read_corner-a-requires
read_corner-a-requires c = corner-asked (goal.at.read_corner-a-requires c).Start (3 * c.args.triangle) (omega arith)

pub read_corner-b-requires : goal.read_corner-b-requires
read_corner-b-requires c = corner-asked (goal.at.read_corner-b-requires c).Start (3 * c.args.triangle + 1) (omega arith)

pub read_corner-c-requires : goal.read_corner-c-requires
read_corner-c-requires c = corner-asked (goal.at.read_corner-c-requires c).Start (3 * c.args.triangle + 2) (omega arith)

pub read_halfedge-first-requires : goal.read_halfedge-first-requires
read_halfedge-first-requires c = cells-asked (goal.at.read_halfedge-first-requires c).Start (3 * c.args.triangle) (omega arith)

pub read_halfedge-second-requires : goal.read_halfedge-second-requires
read_halfedge-second-requires c = cells-asked (goal.at.read_halfedge-second-requires c).Start (3 * c.args.triangle + 1) (omega arith)

pub read_halfedge-third-requires : goal.read_halfedge-third-requires
read_halfedge-third-requires c = cells-asked (goal.at.read_halfedge-third-requires c).Start (3 * c.args.triangle + 2) (omega arith)

pub returns : goal.returns
returns c =
    let t = c.args.triangle in
    let twin = c.args.level.now.twin.now in
    let vert = c.args.level.now.vert.now in
    let edge = c.args.level.now.edge.now in
    let l = c.args.points.now in
    let a = c.read_corner-a.ensures in
    let b = c.read_corner-b.ensures in
    let d = c.read_corner-c.ensures in
    λ i. record {
      first = halfedge_is twin vert edge l (3 * t) (next_0 t) (prev_0 t) a b d c.read_halfedge-first.ensures i;
      second = halfedge_is twin vert edge l (3 * t + 1) (next_1 t) (prev_1 t) b d a c.read_halfedge-second.ensures i;
      third = halfedge_is twin vert edge l (3 * t + 2) (next_2 t) (prev_2 t) d a b c.read_halfedge-third.ensures i;
    }
