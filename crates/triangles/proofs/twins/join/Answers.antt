-- `join` lists the ends, and joins by them.
use Prim.Native.Nat.{ℕ}
use mathlib.Core.Path.{◌≡◌, sym}
use mathlib.Core.List.{List}
use lib.ListN.{length, take}
use Rattle.laws.proofs.InFront.{taken_in_front}
use Rattle.laws.proofs.Tabulate.{length-tabulate}
use Rattle.halfedges.specs.Cage.{NEXT, cell}
use Rattle.triangles.specs.Internal.Joining.{end_table}
use Rattle.triangles.proofs.twins.join.Goals as goal
use Rattle.triangles.proofs.twins.join.Goals.{After-list_ends, Start}

ends_many : (vert : List ℕ) → length (end_table vert) ≡ length vert
ends_many vert = length-tabulate (length vert) (λ h. cell vert (NEXT h))

-- once the ends are listed
module _ (c : After-list_ends) where
  abbrev start : Start
  start = (goal.at.After-list_ends c).Start

  abbrev vert : List ℕ
  vert = start.args.vert.now

  listed : take (length vert) c.list_ends.new.ends ≡ end_table vert
  listed = taken_in_front (end_table vert) _ c.list_ends.ensures (sym (ends_many vert))

pub join_ends-requires : goal.join_ends-requires
join_ends-requires c = (record { whole = (start (goal.at.join_ends-requires c).After-list_ends).requires.0; small = (start (goal.at.join_ends-requires c).After-list_ends).requires.1; listed = listed (goal.at.join_ends-requires c).After-list_ends }, (start (goal.at.join_ends-requires c).After-list_ends).requires.2)
