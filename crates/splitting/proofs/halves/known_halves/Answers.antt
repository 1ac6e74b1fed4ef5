-- `known_halves` stays small, since NEXT goes up by one at most.
use Prim.Native.Nat.{◌≤◌}
use native.Mathlib.Omega.{arith}
use Rattle.halfedges.proofs.Triangle.{next_at_most}
use Rattle.splitting.specs.Internal.InPlace.{most_small}
use Rattle.splitting.proofs.halves.known_halves.Goals as goal
use Rattle.splitting.proofs.halves.known_halves.Goals.{Start}

small : (c : Start) → c.args.next ≤ most_small
small c = omega (arith, c.requires.1, next_at_most c.args.twin, c.requires.0)

pub overflow_mul-result : goal.overflow_mul-result
overflow_mul-result c = omega (arith, small c)

pub overflow_add-result : goal.overflow_add-result
overflow_add-result c = omega (arith, small c)

pub overflow_cast-result : goal.overflow_cast-result
overflow_cast-result c = omega (arith, small c)
