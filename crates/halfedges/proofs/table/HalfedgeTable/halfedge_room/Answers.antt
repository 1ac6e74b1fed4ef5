-- `halfedge_room` is the closed form of the sum, and nothing on the way to it wraps.
use native.Mathlib.Omega.{arith}
use Rattle.halfedges.proofs.Shifted.{shifted, Small, shifted_closed, shifted_small, product_fits}
use Rattle.halfedges.proofs.table.HalfedgeTable.halfedge_room.Goals as goal

small : (c : goal.Start) → Small c.args.depth (shifted c.args.depth)
small c = shifted_small c.args.depth c.requires.1

pub overflow_mul-result : goal.overflow_mul-result
overflow_mul-result c = product_fits (omega (arith, (small c).few)) (omega (arith, (small c).few))

pub overflow_mul-result-2 : goal.overflow_mul-result-2
overflow_mul-result-2 c = omega (arith, (small c).square)

pub overflow_sub-result : goal.overflow_sub-result
overflow_sub-result c = omega (arith, (small c).below_square, (small c).positive)

pub overflow_mul-result-3 : goal.overflow_mul-result-3
overflow_mul-result-3 c = product_fits (omega (arith, (small c).square)) c.requires.0.halfedges

pub returns : goal.returns
returns c = (shifted_closed c.args.self c.args.depth c.requires.1).halfedge_room
