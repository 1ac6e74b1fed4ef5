-- `draw_at` reads both corners, and how many creases the first has.
use mathlib.Core.Path.{◌≡◌, ap, ◌∙◌}
use Rattle.halfedges.proofs.Triangle.{next_below}
use Rattle.halfedges.specs.Cage.{NEXT}
use Rattle.edgepoints.specs.Internal.Edges.{corner_of}
use Rattle.seams.proofs.Seaming.{corner_read, asks_seam, drawn_at}
use Rattle.seams.proofs.seams.draw_at.Goals as goal
use Rattle.seams.proofs.seams.draw_at.Goals.{After-read_corner-b, Start}

-- both corners, read
module _ (a : After-read_corner-b) where
  abbrev s : Start
  s = (goal.at.After-read_corner-b a).Start

  from_is : a.read_corner-a.result ≡ corner_of s.args.level.now.vert.now s.args.points.now s.args.halfedge
  from_is = a.read_corner-a.ensures

  end_is : a.read_corner-b.result ≡ corner_of s.args.level.now.vert.now s.args.points.now (NEXT s.args.halfedge)
  end_is = a.read_corner-b.ensures ∙ ap (corner_of s.args.level.now.vert.now s.args.points.now) a.next.ensures

pub read_corner-a-requires : goal.read_corner-a-requires
read_corner-a-requires c =
    let h = c.args.halfedge in
    (c.requires.1, (corner_read c.requires.0 h c.requires.1 h c.requires.1).0)

pub read_corner-b-requires : goal.read_corner-b-requires
read_corner-b-requires c =
    let h = c.args.halfedge in
    let l = next_below c.requires.0.cornered.whole c.requires.1 in
    rw c.next.ensures (l, (corner_read c.requires.0 h c.requires.1 (NEXT h) l).0)

pub draw_seam-requires : goal.draw_seam-requires
draw_seam-requires c =
    asks_seam (s (goal.at.draw_seam-requires c).After-read_corner-b).requires.0 (s (goal.at.draw_seam-requires c).After-read_corner-b).args.halfedge (s (goal.at.draw_seam-requires c).After-read_corner-b).requires.1 (from_is (goal.at.draw_seam-requires c).After-read_corner-b) (end_is (goal.at.draw_seam-requires c).After-read_corner-b)

pub returns : goal.returns
returns c =
    drawn_at (s (goal.at.returns c).After-read_corner-b).requires.0 (s (goal.at.returns c).After-read_corner-b).args.halfedge (s (goal.at.returns c).After-read_corner-b).requires.1 (from_is (goal.at.returns c).After-read_corner-b) (end_is (goal.at.returns c).After-read_corner-b) (s (goal.at.returns c).After-read_corner-b).args.counts.now c.known_creases-creases.ensures c.draw_seam.ensures
