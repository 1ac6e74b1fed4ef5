-- `ryebadger_halfedge` puts the answer about one halfedge in cells.
use mathlib.Core.Path.{ap, ◌∙◌}
use Rattle.answers.specs.Cells.{halfedge_cells}
use Rattle.ryebadger.proofs.ryebadger_halfedge.Goals as goal

pub returns : goal.returns
returns c = c.of_halfedge.ensures ∙ ap halfedge_cells c.ask-asked.ensures
