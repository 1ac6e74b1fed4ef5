use Rattle.std.proofs.Common.{◌≡◌, ℕ, ◌<◌}
use Rattle.laws.specs.Below.{tabulate}
use Rattle.laws.specs.Parts.{in_front}
use Rattle.cagefile.proofs.numbers.copy_each.Given as goal

abbrev pub invariant-loop-index : goal.invariant-loop-index
invariant-loop-index g l =
    (cell : ℕ → _) → ((i : ℕ) (x : _) → i < l.count → goal.F-post g l.read i x → x ≡ cell i) → l.table ≡ in_front (tabulate l.index cell) l.initial.table
