-- What reading asks of the lent tables: no promise cites this.
use Rattle.std.specs.Prelude.{ℕ, ◌*◌, ◌≤◌, List, ℤ, length}
use Rattle.tables.specs.Tables.{Tables}
use Rattle.filechecks.specs.Contents.{HIn, VIn, EIn}

-- they have room for the cage of a file
pub record RoomFor (f : List ℕ) (lent : Tables) (lent_points : List ℤ) (lentCreases : List ℕ) : Type 0 where
  pub twin : HIn f ≤ length lent.twin
  pub vert : HIn f ≤ length lent.vert
  pub edge : HIn f ≤ length lent.edge
  pub coordinates : 3 * VIn f ≤ length lent_points
  pub creases : EIn f ≤ length lentCreases
