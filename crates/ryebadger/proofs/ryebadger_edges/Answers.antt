-- `ryebadger_edges` puts the number of edges in a cell.
use mathlib.Core.Path.{ap, ◌∙◌}
use mathlib.Core.List.{[], ◌∷◌}
use Rattle.answers.specs.Cells.{number_cell}
use Rattle.ryebadger.proofs.ryebadger_edges.Goals as goal

pub returns : goal.returns
returns c = ap (λ k. k ∷ []) (c.number_cell.ensures ∙ ap number_cell c.count_edges-edges.ensures)
