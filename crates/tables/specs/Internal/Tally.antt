-- How the code counts: a tally of the numbers in a table.
use Rattle.std.specs.Prelude.{ℕ, ◌<◌, ◌≡◌, List, length, get_or}
use Rattle.laws.specs.Below.{count}
use Rattle.tables.specs.Tables.{leaves}

-- each cell x of the tally says how often x stands in the first n cells of a table
pub record Tallied (table : List ℕ) (n : ℕ) (tally : List ℕ) : Type 0 where
  pub each : (x : ℕ) → x < length tally → get_or tally x 0 ≡ count n (leaves table x)
