-- Where it is refused by none of rules 3 to 7, there is no clause.
use borrow.Author.Rules.{rules}
use Rattle.clauses.specs.Clauses.{clause_at}
use Rattle.explainer.specs.Explaining.{file_clause}
use Rattle.explainer.proofs.explaining.find_clause.Goals as goal

pub returns-in_default : goal.returns-in_default
unfolding file_clause clause_at
returns-in_default c = rw (← c.requires) (search rules)
