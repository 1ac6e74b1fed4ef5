-- `any_sharp` tests the number of each edge.
use mathlib.Core.Path.{◌∙◌}
use lib.Dec.{ltb}
use borrow.Author.Rules.{rules}
use borrow.Author.Tests.{tests}
use Rattle.std.proofs.lemmas.Iterator.{YieldsList-from_slice}
use Rattle.std.proofs.lemmas.Iterator.Search.{any_from_yields_List}
use Rattle.seams.specs.Internal.Seams.{any_sharp}
use Rattle.seams.proofs.Numbers.{any_listed}
use Rattle.seams.proofs.sharp.any_sharp.Goals as goal

pub returns : goal.returns
unfolding any_sharp
returns c =
    any_from_yields_List (ltb c.args.level) _ _ c.any.result c.any.ensures.ran (YieldsList-from_slice c.args.creases.now cc) (λ x b q k. search (rules, tests))
    ∙ any_listed (ltb c.args.level) c.args.creases.now
