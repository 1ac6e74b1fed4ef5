use mathlib.Core.Path.{◌≡◌}
use mathlib.Core.List.{flat_map}
use lib.ListN.{take}
use Rattle.laws.specs.Parts.{in_front}
use Rattle.cagefile.specs.Numbers.{u16}
use Rattle.writing.proofs.put_numbers.Given as goal

abbrev pub invariant-loop-halfedge : goal.invariant-loop-halfedge
invariant-loop-halfedge l =
    l.part ≡ in_front (flat_map u16 (take l.halfedge l.table)) l.initial.part
