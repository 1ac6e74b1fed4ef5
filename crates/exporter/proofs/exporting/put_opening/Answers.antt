-- The head of the STL. Its counts are small.
use native.Mathlib.Omega.{arith}
use Rattle.exporter.proofs.Outcomes.{head-opening}
use Rattle.exporter.proofs.exporting.put_opening.Goals as goal

pub overflow_cast-checked : goal.overflow_cast-checked
overflow_cast-checked c = omega (arith, c.requires.0.few_triangles)

pub overflow_mul-result : goal.overflow_mul-result
overflow_mul-result c = omega (arith, c.requires.0.few_vertices)

pub returns : goal.returns
returns c = head-opening c.args.checked c.put_head.ensures
