-- How the code finds what is joined with a corner: it marks what a walk meets, once along the links and once against them.
use Rattle.std.specs.Prelude.{ℕ, zero, suc, ◌+◌, ◌<◌, ◌≡◌, Bool, false, cond, not, ◌&&◌, ◌||◌, List, eqb, length, get_or}
use Rattle.halfedges.specs.Cage.{NEXT, marker, cell, border}
use Rattle.tables.specs.Fans.{link, joined}

-- the halfedge that h is linked with, or the one that is linked with h; the marker where there is none
unfoldable pub step : List ℕ → Bool → ℕ → ℕ
step twin along h = cond along (link twin h) (cond (border twin h) marker (NEXT (cell twin h)))

-- h is one of the first n halfedges of the walk from g
unfoldable pub walked : List ℕ → Bool → ℕ → ℕ → ℕ → Bool
walked twin along zero g h = false
walked twin along (suc n) g h = eqb g h || not (eqb (step twin along g) marker) && walked twin along n (step twin along g) h

-- whatever one of the first H + 1 halfedges of the walk from g is, is marked, and what was marked
pub record Marked (twin : List ℕ) (along : Bool) (g : ℕ) (before after : List ℕ) : Type 0 where
  pub long : length after ≡ length before
  pub each : (h : ℕ) → h < length before → get_or after h 0 ≡ cond (walked twin along (length twin + 1) g h) 1 (get_or before h 0)

-- just what is joined with g is marked
pub record Joins (twin : List ℕ) (g : ℕ) (marks : List ℕ) : Type 0 where
  pub each : (h : ℕ) → h < length twin → get_or marks h 0 ≡ cond (joined twin g h) 1 0
