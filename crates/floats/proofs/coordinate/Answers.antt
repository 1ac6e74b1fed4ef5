-- Division gives the definition's float.
use mir.Facts.{to_z-of_z}
use Rattle.floats.proofs.Exact.{castable, float_divided}
use Rattle.floats.proofs.coordinate.Goals as goal

pub int_to_float-result : goal.int_to_float-result
int_to_float-result c = rw (to_z-of_z c.ranges.units) (castable _ c.requires)

pub returns : goal.returns
returns c = rw (to_z-of_z c.ranges.units) (float_divided _ c.requires)
