-- `Reading::of` tells the numbers as a file that reads has them.
use native.Mathlib.Omega.{arith}
use Rattle.filechecks.proofs.Sound.{sound_length}
use Rattle.reading.proofs.Reading.of.Goals as goal

pub form_of-requires : goal.form_of-requires
form_of-requires c = omega (arith, sound_length _ c.requires)

pub halfedges_in-requires : goal.halfedges_in-requires
halfedges_in-requires c = omega (arith, sound_length _ c.requires)

pub vertices_in-requires : goal.vertices_in-requires
vertices_in-requires c = omega (arith, sound_length _ c.requires)

pub returns : goal.returns
returns c = rw (c.form_of.ensures, c.halfedges_in.ensures.0, c.vertices_in.ensures.0, c.edges_in.ensures.0)
