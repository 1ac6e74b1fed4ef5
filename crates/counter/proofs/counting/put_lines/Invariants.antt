use Prim.Native.Nat.{◌*◌}
use Rattle.laws.specs.Below.{end_to_end}
use Rattle.text.specs.Internal.Put.{Put}
use Rattle.counter.specs.Counting.{count_line}
use Rattle.counter.proofs.counting.put_lines.Given as goal

abbrev pub invariant-loop-level : goal.invariant-loop-level
invariant-loop-level l = Put l.initial.out 0 (105 * l.level) (end_to_end l.level (count_line l.levels)) l.out l.at
