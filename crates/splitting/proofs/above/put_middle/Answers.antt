-- `put_middle` joins what it knows of the triangle's twins, of which none is the last of its triangle.
use Prim.Native.Nat.{◌+◌}
use mathlib.Core.Path.{sym}
use native.Mathlib.Omega.{arith}
use Rattle.halfedges.proofs.Triangle.{next_other}
use Rattle.splitting.specs.Internal.InPlace.{split_twins}
use Rattle.splitting.proofs.above.put_middle.Goals as goal

pub known_halves-requires : goal.known_halves-requires
known_halves-requires c = let p = c.requires.middle_triangle in (omega (arith, p.small), sym (next_other _ (λ e. omega (arith, e, p.leaving))))

pub known_halves-requires-2 : goal.known_halves-requires-2
known_halves-requires-2 c = let p = c.requires.middle_triangle in (omega (arith, p.small), omega (arith, next_other (c.args.across + 3) (λ e. omega (arith, e, p.leaving))))

pub known_halves-requires-3 : goal.known_halves-requires-3
known_halves-requires-3 c = let p = c.requires.middle_triangle in (omega (arith, p.small), omega (arith, next_other (c.args.across + 6) (λ e. omega (arith, e, p.leaving))))

pub returns : goal.returns
unfolding split_twins
returns c =
    let m = c.requires.middle_triangle in
    rw (c.put.ensures, c.join_twins-split.ensures, c.known_halves-3.ensures, c.known_halves-2.ensures, c.known_halves.ensures, m.first, m.second, m.third)
