use Prim.Native.Nat.{◌*◌}
use mathlib.Core.Path.{◌≡◌}
use Rattle.laws.specs.Below.{end_to_end}
use Rattle.text.specs.Internal.Put.{Put}
use Rattle.lister.specs.Listing.{level_line}
use Rattle.lister.specs.Internal.Doubling.{doubled}
use Rattle.lister.proofs.listing.put_lines.Given as goal

abbrev pub invariant-loop-level : goal.invariant-loop-level
invariant-loop-level l =
    (l.level_borders ≡ doubled l.borders l.level) × Put l.initial.out 0 (126 * l.level) (end_to_end l.level (level_line l.levels (doubled l.borders))) l.out l.at
