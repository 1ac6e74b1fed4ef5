-- `write_plain` writes the tables' fields, the points' and the end, each where the one before it ended.
use Prim.Native.Nat.{◌≤◌}
use native.Mathlib.Omega.{arith}
use lib.ListN.{length}
use Rattle.tables.specs.Tables.{held}
use Rattle.cagefile.specs.declared.fields.Form.TheVariants.{One}
use Rattle.cagefile.specs.Fields.{Cage, later_heads, later_payloads}
use Rattle.cagefile.proofs.Fits.{Fits}
use Rattle.writing.specs.Writing.{plain}
use Rattle.writing.proofs.Accepted.{write_fits}
use Rattle.writing.proofs.WriteChecks.{needed, write_room}
use Rattle.writing.proofs.FieldWriting.{tables_behind, points_next, end_written}
use Rattle.writing.proofs.write_plain.Goals as goal
use Rattle.writing.proofs.write_plain.Goals.{After-write_end-arg-1, After-write_points-arg-1, After-write_tables-arg-1, Start}

-- what is written; it fits, and there is room
module _ (s : Start) where
  abbrev cage : Cage
  cage = plain (held s.args.tables.now) s.args.points.now

  fits : Fits cage.connectivity cage.points
  fits = (write_fits One cage _ s.requires).0

  room : needed One cage ≤ length s.args.file.now
  room = write_room One cage _ s.requires

-- the function's entry, from where each field is about to be written
abbrev start₁ : After-write_tables-arg-1 → Start
start₁ c = (goal.at.After-write_tables-arg-1 c).Start

abbrev start₂ : After-write_points-arg-1 → Start
start₂ c = start₁ (goal.at.After-write_points-arg-1 c).After-write_tables-arg-1

abbrev start₃ : After-write_end-arg-1 → Start
start₃ c = start₂ (goal.at.After-write_end-arg-1 c).After-write_points-arg-1

pub write_tables-points_at-requires : goal.write_tables-points_at-requires
write_tables-points_at-requires c = omega (arith, room (start₁ c), fits (start₁ c))

pub write_points-end_at-requires : goal.write_points-end_at-requires
write_points-end_at-requires c = omega (arith, room (start₂ c), fits (start₂ c))

pub write_end-requires : goal.write_end-requires
write_end-requires c = omega (arith, room (start₃ c), fits (start₃ c))

pub returns : goal.returns
unfolding later_heads later_payloads
returns c =
    let s = start₁ (goal.at.returns c).After-write_tables-arg-1 in
    let left₁ = tables_behind One (cage s) (fits s) c.write_tables-points_at.ensures in
    let left₂ = points_next s.args.points.now (fits s).shaped.threes left₁ c.write_points-end_at.ensures in
    end_written left₂ c.write_end.ensures
