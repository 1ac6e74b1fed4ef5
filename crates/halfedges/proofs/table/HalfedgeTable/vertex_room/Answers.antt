-- `vertex_room` is the closed form of the sum, and nothing on the way to it wraps.
use native.Mathlib.Omega.{arith}
use Rattle.halfedges.proofs.Shifted.{shifted, Small, shifted_closed, shifted_small, product, part, product_fits, two_fit, three_fit}
use Rattle.halfedges.proofs.table.HalfedgeTable.vertex_room.Goals as goal

small : (c : goal.Start) → Small c.args.depth (shifted c.args.depth)
small c = shifted_small c.args.depth c.requires.1

pub overflow_mul-square : goal.overflow_mul-square
overflow_mul-square c = product_fits (omega (arith, (small c).few)) (omega (arith, (small c).few))

pub overflow_mul-result : goal.overflow_mul-result
overflow_mul-result c = product_fits (omega (arith, c.requires.1)) c.requires.0.vertices

pub overflow_mul-result-2 : goal.overflow_mul-result-2
overflow_mul-result-2 c = omega (arith, (small c).few)

pub overflow_sub-result : goal.overflow_sub-result
overflow_sub-result c = omega (arith, (small c).below_power)

pub overflow_mul-result-3 : goal.overflow_mul-result-3
overflow_mul-result-3 c = product_fits (omega (arith, (small c).few)) c.requires.0.edges

pub overflow_add-result-3 : goal.overflow_add-result-3
overflow_add-result-3 c = two_fit (product (omega (arith, c.requires.1)) c.requires.0.vertices) (product (omega (arith, (small c).few)) c.requires.0.edges)

pub overflow_mul-result-4 : goal.overflow_mul-result-4
overflow_mul-result-4 c = omega (arith, (small c).square)

pub overflow_add-result-4 : goal.overflow_add-result-4
overflow_add-result-4 c = omega (arith, (small c).square, c.requires.1)

pub overflow_add-result-5 : goal.overflow_add-result-5
overflow_add-result-5 c = omega (arith, (small c).square, c.requires.1)

pub overflow_mul-result-6 : goal.overflow_mul-result-6
overflow_mul-result-6 c = omega (arith, (small c).few)

pub overflow_sub-result-2 : goal.overflow_sub-result-2
overflow_sub-result-2 c = omega (arith, (small c).below_ninefold)

pub overflow_mul-result-7 : goal.overflow_mul-result-7
overflow_mul-result-7 c = product_fits (omega (arith, (small c).square, c.requires.1)) c.requires.0.halfedges

pub overflow_add-result-6 : goal.overflow_add-result-6
overflow_add-result-6 c = three_fit (product (omega (arith, c.requires.1)) c.requires.0.vertices) (product (omega (arith, (small c).few)) c.requires.0.edges) (part 9 (product (omega (arith, (small c).square, c.requires.1)) c.requires.0.halfedges))

pub returns : goal.returns
returns c = (shifted_closed c.args.self c.args.depth c.requires.1).vertex_room
