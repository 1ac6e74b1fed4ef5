-- The lowest corner is where the library finds the vertex first.
use Rattle.std.proofs.Common.{rules, tests, eqb}
use Rattle.std.proofs.lemmas.Iterator.{YieldsList-from_slice}
use Rattle.std.proofs.lemmas.Iterator.Search.{position_from_yields_List}
use Rattle.laws.proofs.Position.{found_lowest}
use Rattle.clauses.proofs.fans.lowest_corner.Goals as goal

pub returns : goal.returns
returns c =
    let vert = c.args.vert.now in
    let vertex = c.args.vertex in
    let found = position_from_yields_List (λ corner. eqb corner vertex) _ _ c.position.result c.position.ensures.ran (YieldsList-from_slice vert cc) (λ x b q k. search (rules, tests)) in
    found_lowest (λ corner. eqb corner vertex) 0 vert _ _ found c.unwrap_or.ensures
