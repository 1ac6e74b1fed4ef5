-- What taking a file hands on: no promise cites these.
use Rattle.std.specs.Prelude.{ℕ, ◌*◌, ◌≤◌, ◌≡◌, List, ℤ, length, take}
use Rattle.halfedges.specs.Cage.{E}
use Rattle.halfedges.specs.Refusals.{Said}
use Rattle.tables.specs.declared.check.Checked.{Checked}
use Rattle.tables.specs.Tables.{Tables, tables}
use Rattle.points.specs.Operations.{check_creased}
use Rattle.reading.specs.declared.Reading.{Reading}
use Rattle.filechecks.specs.Contents.{cage_in}

-- the cage at the tables' fronts
abbrev pub front : Reading → Tables → Tables
front r t = let h = r.halfedges in tables (take h t.twin) (take h t.vert) (take h t.edge)

-- the tables have as many cells as were read, and a crease number for each edge
pub record Held (r : Reading) (t : Tables) (points : List ℤ) (creases : List ℕ) : Type 0 where
  pub twin : r.halfedges ≤ length t.twin
  pub vert : r.halfedges ≤ length t.vert
  pub edge : r.halfedges ≤ length t.edge
  pub coordinates : 3 * r.vertices ≤ length points
  pub numbers : E (front r t).twin ≤ length creases

-- what the check of the cage at the tables' fronts answers
unfoldable pub front_checked : Reading → Tables → List ℤ → List ℕ → Said (List ℕ)
front_checked r t points creases =
    let c = front r t in
    check_creased c (take (E c.twin) creases) (take (3 * r.vertices) points)

-- of an accepted cage, VERT and points stand at the tables' fronts
pub record Taken (f : List ℕ) (c : Checked) (vert : List ℕ) (points : List ℤ) : Type 0 where
  pub corners : take c.halfedges vert ≡ (cage_in f).connectivity.vert
  pub places : take (3 * c.vertices) points ≡ (cage_in f).points
