-- Tables that have room for any cage, and what reading leaves at their fronts: no promise cites these.
use Rattle.std.specs.Prelude.{ℕ, ◌*◌, ◌≡◌, List, ℤ, length, take}
use Rattle.laws.specs.Parts.{in_front}
use Rattle.halfedges.specs.Cage.{most_halfedges, most_vertices}
use Rattle.tables.specs.Tables.{Tables}
use Rattle.reading.specs.declared.Reading.{Reading}
use Rattle.filechecks.specs.Contents.{HIn, VIn, EIn, twins_in, verts_in, edges_in, creases_read, points_in, weight_in}
use Rattle.filechecks.specs.Internal.Sound.{Sound}

-- the tables have the limits' lengths
pub record Ample (lent : Tables) (lent_points : List ℤ) (lentCreases : List ℕ) : Type 0 where
  pub twin : length lent.twin ≡ most_halfedges
  pub vert : length lent.vert ≡ most_halfedges
  pub edge : length lent.edge ≡ most_halfedges
  pub coordinates : length lent_points ≡ 3 * most_vertices
  pub creases : length lentCreases ≡ most_halfedges

-- what was read of a file that reads: its numbers, and its cage at the fronts of tables
pub record Fronts (f : List ℕ) (r : Reading) (now : Tables) (nowPoints : List ℤ) (held nowCreases : List ℕ) : Type 0 where
  pub sound : Sound f
  pub ample : Ample now nowPoints nowCreases
  pub halfedges : r.halfedges ≡ HIn f
  pub vertices : r.vertices ≡ VIn f
  pub edges : r.edges ≡ EIn f
  pub weight : r.weight ≡ weight_in f
  pub twin : take r.halfedges now.twin ≡ twins_in f
  pub vert : take r.halfedges now.vert ≡ verts_in f
  pub edge : take r.halfedges now.edge ≡ edges_in f
  pub coordinates : take (3 * r.vertices) nowPoints ≡ points_in f
  pub creases : nowCreases ≡ in_front (creases_read f) held
