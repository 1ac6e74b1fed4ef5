-- Where no coordinate is out of range there is no place to look for.
use mathlib.Core.Path.{sym, ◌∙◌}
use Rattle.laws.proofs.Tests.{any_false}
use Rattle.halfedges.proofs.Checks.{clean_done}
use Rattle.cage.proofs.check_points.Goals as goal

pub returns : goal.returns
returns c = sym (clean_done _ _ _ (any_false _ _ (sym c.any_out_of_range.ensures ∙ c.if-any_out_of_range.false)))
