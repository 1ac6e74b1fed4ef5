-- `write_creased` writes the tables' fields, the creases', the points', the weight and the end, each where the one before it ended.
use Prim.Native.Nat.{◌≤◌}
use mathlib.Core.Path.{refl, ap}
use mathlib.Core.List.{[], ◌∷◌}
use native.Mathlib.Omega.{arith}
use lib.ListN.{length}
use Rattle.tables.proofs.EdgeCount.{edges_at_most}
use Rattle.points.specs.declared.weights.Weight.{Weight}
use Rattle.points.specs.declared.weights.Weight.TheVariants.{Short, Paper}
use Rattle.points.specs.Weights.{weight_number}
use Rattle.cagefile.specs.declared.fields.Form.TheVariants.{Two}
use Rattle.cagefile.specs.Fields.{Cage, later_heads, later_payloads}
use Rattle.cagefile.proofs.Fits.{Fits, Numbered}
use Rattle.writing.specs.Writing.{weighted}
use Rattle.writing.proofs.Accepted.{write_fits}
use Rattle.writing.proofs.WriteChecks.{needed, write_room}
use Rattle.writing.proofs.FieldWriting.{tables_behind, left_next, points_next, end_written}
use Rattle.writing.proofs.write_creased.Goals as goal
use Rattle.writing.proofs.write_creased.Goals.{Start}

-- what is written; it fits, there is a number for each edge, and there is room
module _ (s : Start) where
  abbrev cage : Cage
  cage = weighted s.args.cage.now s.args.weight

  fits : Fits cage.connectivity cage.points
  fits = (write_fits Two cage _ s.requires).0

  numbered : Numbered Two cage
  numbered = (write_fits Two cage _ s.requires).1

  room : needed Two cage ≤ length s.args.file.now
  room = write_room Two cage _ s.requires

weight_small : (weight : Weight) → weight_number weight ≤ 1
weight_small Short = omega arith
weight_small Paper = omega arith

pub write_tables-creases_at-requires : goal.write_tables-creases_at-requires
write_tables-creases_at-requires c = omega (arith, room ((goal.at.write_tables-creases_at-requires c).Start), fits ((goal.at.write_tables-creases_at-requires c).Start))

pub write_bytes-points_at-requires : goal.write_bytes-points_at-requires
write_bytes-points_at-requires c = omega (arith, room ((goal.at.write_bytes-points_at-requires c).Start), fits ((goal.at.write_bytes-points_at-requires c).Start), numbered ((goal.at.write_bytes-points_at-requires c).Start), edges_at_most (goal.at.write_bytes-points_at-requires c).Start.args.cage.now.tables.twin.now)

pub write_points-weight_at-requires : goal.write_points-weight_at-requires
write_points-weight_at-requires c = omega (arith, room ((goal.at.write_points-weight_at-requires c).Start), fits ((goal.at.write_points-weight_at-requires c).Start))

pub overflow_cast-byte : goal.overflow_cast-byte
overflow_cast-byte c = omega (arith, c.from.ensures, weight_small (goal.at.overflow_cast-byte c).Start.args.weight)

pub write_bytes-end_at-requires : goal.write_bytes-end_at-requires
write_bytes-end_at-requires c = omega (arith, room ((goal.at.write_bytes-end_at-requires c).Start), fits ((goal.at.write_bytes-end_at-requires c).Start))

pub write_end-requires : goal.write_end-requires
write_end-requires c = omega (arith, room ((goal.at.write_end-requires c).Start), fits ((goal.at.write_end-requires c).Start))

pub returns : goal.returns
unfolding later_heads later_payloads
returns c =
    let s = (goal.at.returns c).Start in
    let left₁ = tables_behind Two (cage s) (fits s) (rw c.vertices.ensures at c.write_tables-creases_at.ensures) in
    let left₂ = left_next left₁ (numbered s) refl refl c.write_bytes-points_at.ensures in
    let left₃ = points_next s.args.cage.now.points.now (fits s).shaped.threes left₂ c.write_points-weight_at.ensures in
    let left₄ = left_next left₃ refl (ap (λ n. n ∷ []) c.from.ensures) refl c.write_bytes-end_at.ensures in
    end_written left₄ c.write_end.ensures
