use Prim.Native.Nat.{ℕ}
use mathlib.Core.Path.{◌≡◌}
use mathlib.Core.List.{List, flat_map}
use lib.IntN.{ℤ}
use lib.ListN.{take}
use Rattle.laws.specs.Parts.{in_front}
use Rattle.cagefile.specs.Numbers.{u32, twos}
use Rattle.writing.proofs.put_points.Given as goal

abbrev pub put : ℤ → List ℕ
put z = u32 (twos z)

abbrev pub invariant-loop-index : goal.invariant-loop-index
invariant-loop-index l =
    l.part ≡ in_front (flat_map put (take l.index l.points)) l.initial.part
