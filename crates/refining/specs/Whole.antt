-- Demand 3 of the whole level, tables, creases and points: what the level at every depth keeps of the cage.
use Rattle.std.specs.Prelude.{ℕ, ◌≤◌, ◌<◌, ◌≡◌, List, [], ◌∷◌, ◌++◌, ℤ, length}
use Rattle.halfedges.specs.Refusals.{DONE, POINT, given_at, first}
use Rattle.halfedges.specs.Counts.{Vs}
use Rattle.tables.specs.Tables.{Tables, counts_of}
use Rattle.splitting.specs.NextLevel.{level}
use Rattle.creases.specs.Creases.{creases_at}
use Rattle.creases.specs.Check.{creased_rules}
use Rattle.invariance.specs.Invariance.{corners_at, OnBorder, Invariant}
use Rattle.sharpness.specs.Kept.{KeptCreases}
use Rattle.points.specs.declared.weights.Weight.{Weight}
use Rattle.points.specs.declared.weights.Weight.TheVariants.{Paper}
use Rattle.points.specs.Weights.{most_valence}
use Rattle.points.specs.NextPoints.{level_points}
use Rattle.points.specs.Operations.{vertices, out_of_range, InRange}

-- level d's points
abbrev pub points_of : Weight → Tables → List ℕ → List ℤ → ℕ → List ℤ
points_of w c creases points d = level_points w (counts_of c (vertices points)) c creases points d

-- level d of a cage, refined by the weight chosen
pub record WholeInvariant (w : Weight) (c : Tables) (creases : List ℕ) (points : List ℤ) (d : ℕ) : Type 0 where
  -- all that is said of the tables
  pub tables : Invariant (counts_of c (vertices points)) c d
  -- and of the creases
  pub sharp : KeptCreases (counts_of c (vertices points)) c creases d
  -- "each coordinate from −1,048,576 to 1,048,576"
  pub in_range : InRange (points_of w c creases points d)
  -- "at every depth the tables pass the same cage rules", 3 to 8, with 1 and 15 of the creases
  pub passes :
      first
      (creased_rules (level (counts_of c (vertices points)) c d) (creases_at (counts_of c (vertices points)) creases d)
      (Vs (counts_of c (vertices points)) d)
      ++ (given_at (length (points_of w c creases points d)) (out_of_range (points_of w c creases points d)) POINT ∷ []))
      ≡ DONE
  -- no vertex inside is without a weight: "from 2 to 32" corners where the paper's is chosen
  pub weighed :
      (u : ℕ) → u < Vs (counts_of c (vertices points)) d → ¬ OnBorder (level (counts_of c (vertices points)) c d) u
      → (2 ≤ corners_at (level (counts_of c (vertices points)) c d) u)
      × (w ≡ Paper → corners_at (level (counts_of c (vertices points)) c d) u ≤ most_valence)
