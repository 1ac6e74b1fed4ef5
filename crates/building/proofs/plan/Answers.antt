-- `plan` goes through all checks of the cage, and then the room.
use mathlib.Core.Path.{◌∙◌}
use Rattle.halfedges.proofs.Told.{handed_on}
use Rattle.building.proofs.Built.{told_either}
use Rattle.building.proofs.Given.{checks_given, room_left}
use Rattle.building.proofs.plan.Goals as goal

pub returns-in_err-check_plain : goal.returns-in_err-check_plain
returns-in_err-check_plain c =
    rw (handed_on c.from_residual.ensures)
    record { result_value = checks_given _ _ _ _ _ c.in_err-check_plain.ensures.result_value; twins_after = tt }

pub returns : goal.returns
returns c =
    let e = c.in_ok-check_plain.ensures in
    record { result_value = c.short_table.ensures ∙ room_left _ _ _ _ e.result_value; twins_after = told_either _ e.twins_after }
