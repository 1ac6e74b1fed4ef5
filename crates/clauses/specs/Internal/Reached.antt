-- What a check has found of the tables where it gives a number from 3 to 7: the rule is broken at the place, and those before it are kept.
use Rattle.std.specs.Prelude.{ℕ, ◌≤◌, ◌<◌, ◌≡◌, Bool, true, length}
use Rattle.halfedges.specs.Cage.{most_halfedges, E}
use Rattle.halfedges.specs.Refusals.{Verdict}
use Rattle.tables.specs.Tables.{Tables}
use Rattle.tables.specs.Rules.{bad_twin, bad_vertex, unused, bad_edge}
use Rattle.tables.specs.Fans.{not_one_fan}
use Rattle.tables.specs.Internal.Relied.{ForPlaces}

-- a place below n fails a test
pub record BrokenAt (n : ℕ) (bad : ℕ → Bool) (place : ℕ) : Type 0 where
  pub below : place < n
  pub broken : bad place ≡ true

pub record Reached (c : Tables) (v : ℕ) (w : Verdict) : Type 0 where
  pub twin_at : w.number ≡ 3 → (length c.twin ≤ most_halfedges) × BrokenAt (length c.twin) (bad_twin c.twin) w.place
  pub vertex_at : w.number ≡ 4 → ForPlaces c v × BrokenAt (length c.twin) (bad_vertex c.twin c.vert v) w.place
  pub unused_at : w.number ≡ 5 → ForPlaces c v × BrokenAt v (unused c.vert) w.place
  pub edge_at : w.number ≡ 6 → ForPlaces c v × BrokenAt (length c.twin) (bad_edge c.twin c.edge (E c.twin)) w.place
  pub fan_at : w.number ≡ 7 → ForPlaces c v × BrokenAt v (not_one_fan c.twin c.vert) w.place
