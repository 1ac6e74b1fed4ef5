-- What is asked of the numbers of an answer before they are put in cells.
use Rattle.std.specs.Prelude.{ℕ, ◌<◌, ◌≡◌, List, [], ◌∷◌, length}
use Rattle.halfedges.specs.declared.table.Levels.{Levels}

-- each number fits a cell
abbrev pub Fitting : List ℕ → Type 0
Fitting [] = Unit {0}
Fitting (n ∷ ns) = (n < 4294967296) × Fitting ns

-- seven numbers of each kind
pub record Sevens (l : Levels) : Type 0 where
  pub halfedges : length l.halfedges ≡ 7
  pub edges : length l.edges ≡ 7
  pub vertices : length l.vertices ≡ 7
