-- The bytes copied are those of the list, one after another.
use mathlib.Core.Path.{refl, ap, ◌∙◌}
use borrow.Author.Rules.{rules}
use lib.ListN.{length, get_or}
use Rattle.laws.specs.Parts.{in_front}
use Rattle.laws.proofs.Tabulate.{tabulate-cells}
use Rattle.writing.proofs.put_bytes.Goals as goal

pub returns : goal.returns
returns c =
    let bytes = c.args.bytes.now in
    c.copy_each.ensures (λ i. get_or bytes i 0) (λ i x l e. search (rules, e))
    ∙ ap (λ t. in_front t c.args.part.now) (tabulate-cells (length bytes) bytes 0 refl)
