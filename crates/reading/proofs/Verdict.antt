-- What the verdict of reading says where it is done: the file passes its checks (`read_sound`), and the lent tables have room (`read_room`).
-- Assumes nothing.
use Prim.Native.Nat.{ℕ}
use mathlib.Core.Path.{◌≡◌, refl}
use mathlib.Core.List.{List}
use lib.IntN.{ℤ}
use borrow.Author.Tests.{ltb-false}
use Rattle.halfedges.specs.Refusals.{DONE, short}
use Rattle.halfedges.proofs.Checks.{done_both, done_passes}
use Rattle.tables.specs.Tables.{Tables}
use Rattle.levels.specs.Refining.{short_tables}
use Rattle.filechecks.specs.FileChecks.{file_checks, both}
use Rattle.filechecks.specs.Internal.Sound.{Sound}
use Rattle.filechecks.proofs.Sound.{checks_sound}
use Rattle.reading.specs.Reading.{short_room, read_verdict}
use Rattle.reading.specs.Internal.Room.{RoomFor}

module _ (f : List ℕ) (lent : Tables) (lent_points : List ℤ) (lentCreases : List ℕ) (e : read_verdict f lent lent_points lentCreases ≡ DONE) where
  pub read_sound : Sound f
  unfolding read_verdict
  read_sound = checks_sound f both (done_both (file_checks both f) _ e).0

  pub read_room : RoomFor f lent lent_points lentCreases
  unfolding read_verdict short_room short_tables short
  read_room =
      let twin = done_passes _ _ _ refl (done_both (file_checks both f) _ e).1 in
      let vert = done_passes _ _ _ refl twin.1 in
      let edge = done_passes _ _ _ refl vert.1 in
      let points = done_passes _ _ _ refl edge.1 in
      let creases = done_passes _ _ _ refl points.1 in
      record {
        twin = ltb-false _ _ twin.0;
        vert = ltb-false _ _ vert.0;
        edge = ltb-false _ _ edge.0;
        coordinates = ltb-false _ _ points.0;
        creases = ltb-false _ _ creases.0;
      }
