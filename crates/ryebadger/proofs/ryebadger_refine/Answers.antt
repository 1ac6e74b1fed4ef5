-- `ryebadger_refine` puts the answer of refining by the weight of its number in cells, which it fits, and leaves what that leaves.
use mathlib.Core.Path.{◌≡◌, ap, ◌∙◌}
use Rattle.halfedges.specs.Counts.{counted}
use Rattle.tables.specs.Tables.{tables}
use Rattle.points.specs.declared.weights.Weight.{Weight}
use Rattle.points.specs.Weights.{weight_of}
use Rattle.points.specs.Operations.{Refined, refine_cage}
use Rattle.answers.specs.Cells.{level_cells}
use Rattle.answers.specs.Internal.Fitting.{Fitting, Sevens}
use Rattle.answers.proofs.Answers.{refine_fits, levels-told}
use Rattle.ryebadger.proofs.ryebadger_refine.Goals as goal
use Rattle.ryebadger.proofs.ryebadger_refine.Goals.{After-from-chosen, After-refine-counted, Start}

module _ (r : After-refine-counted) where
  abbrev n : After-from-chosen
  n = (goal.at.After-refine-counted r).After-from-chosen

  abbrev s : Start
  s = (goal.at.After-from-chosen n).Start

  -- what refining leaves, by a weight
  abbrev after : Weight → Refined
  after w =
      refine_cage w (tables s.args.twin.now s.args.vert.now s.args.edge.now) s.args.creases.now s.args.points.now s.args.depth
      (tables s.args.twins.now s.args.verts.now s.args.edges.now)
      s.args.places.now
      s.args.seams.now

  fits : Sevens (counted r.refine-counted.result).values × Fitting (level_cells (counted r.refine-counted.result))
  fits = levels-told r.refine-counted.result (after n.from-chosen.result).answer r.refine-counted.ensures.0 (refine_fits _ _ _ _ _ _ _ _)

  put : level_cells (counted r.refine-counted.result) ≡ level_cells (after (weight_of s.args.weight)).answer
  put =
      ap level_cells {y = (after n.from-chosen.result).answer} r.refine-counted.ensures.0
      ∙ ap (λ w. level_cells (after w).answer) n.from-chosen.ensures

pub of_counts-requires : goal.of_counts-requires
of_counts-requires c = fits (goal.at.of_counts-requires c).After-refine-counted

pub returns : goal.returns
returns c =
    let chosen = (n (goal.at.returns c).After-refine-counted).from-chosen.ensures in (
      c.of_counts.ensures ∙ put (goal.at.returns c).After-refine-counted,
      c.refine-counted.ensures.1 ∙ ap (λ w. (after (goal.at.returns c).After-refine-counted w).lent) chosen,
      c.refine-counted.ensures.2 ∙ ap (λ w. (after (goal.at.returns c).After-refine-counted w).points) chosen,
      c.refine-counted.ensures.3 ∙ ap (λ w. (after (goal.at.returns c).After-refine-counted w).creases) chosen,
    )
