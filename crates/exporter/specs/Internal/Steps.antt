-- What the exporter's functions hand on: no promise cites these.
use Rattle.std.specs.Prelude.{ℕ, ◌*◌, ◌≤◌, ◌≡◌, List, ℤ, Result, length}
use Rattle.laws.specs.Parts.{in_front}
use Rattle.halfedges.specs.Cage.{most_halfedges, most_vertices}
use Rattle.tables.specs.declared.check.Checked.{Checked}
use Rattle.text.specs.declared.replies.Status.TheVariants.{Answered}
use Rattle.text.specs.declared.replies.Written.{Written}
use Rattle.stl.specs.File.{stl_head}
use Rattle.exporter.specs.declared.exporting.Opened.{Opened}
use Rattle.exporter.specs.Exporting.{lengths_of}

-- the counts of an accepted cage are small
pub record Small (c : Checked) : Type 0 where
  pub few_halfedges : c.halfedges ≤ most_halfedges
  pub few_vertices : c.vertices ≤ most_vertices
  pub few_triangles : c.triangles ≤ most_halfedges

-- the head of an accepted cage's STL stands at the front, and what is told with it
pub record Opening (c : Checked) (before after : List ℕ) (r : Opened) : Type 0 where
  pub status : r.status ≡ Answered
  pub text : after ≡ in_front (stl_head c.triangles) before
  pub ends : r.length ≡ length (stl_head c.triangles)
  pub short : r.length ≤ 84
  pub halfedges : r.halfedges ≡ c.halfedges
  pub coordinates : r.coordinates ≡ 3 * c.vertices

-- what is told stands within the text and the tables
pub record Within (r : Result Opened Written) (out vert : List ℕ) (points : List ℤ) : Type 0 where
  pub text : (lengths_of r).length ≤ length out
  pub corners : (lengths_of r).halfedges ≤ length vert
  pub places : (lengths_of r).coordinates ≤ length points
