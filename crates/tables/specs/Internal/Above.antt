-- Which of an edge's two halfedges is the higher one, by a cell of TWIN.
use Rattle.std.specs.Prelude.{ℕ, Bool, ◌||◌, eqb, ltb}
use Rattle.halfedges.specs.Cage.{marker}

-- "h > t", where "a missing twin counts as lower than every halfedge"
abbrev pub is_above : ℕ → ℕ → Bool
is_above t h = eqb t marker || ltb t h
