-- Small numbers in place of any.
use Rattle.std.specs.Prelude.{ℕ, ◌/◌, ◌%◌, ◌<◌, ◌≡◌, Bool, List, eqb, length, get_or}
use Rattle.alike.specs.Internal.Alike.{bound}

-- numbers that can be groups and labels
pub record Small (numbers : List ℕ) : Type 0 where
  pub each : (k : ℕ) → k < length numbers → get_or numbers k 0 < bound

-- of each of the first n numbers the last digit by the bound, and what stands before it
pub record Halved (numbers : List ℕ) (n : ℕ) (upper low : List ℕ) : Type 0 where
  pub before : (k : ℕ) → k < n → get_or upper k 0 ≡ get_or numbers k 0 / bound
  pub last : (k : ℕ) → k < n → get_or low k 0 ≡ get_or numbers k 0 % bound

-- the numbers at j and k are the same
abbrev pub same_at : List ℕ → ℕ → ℕ → Bool
same_at numbers j k = eqb (get_or numbers j 0) (get_or numbers k 0)

-- small numbers that are the same exactly where the numbers are
pub record Narrowed (numbers small : List ℕ) : Type 0 where
  pub below : (k : ℕ) → k < length numbers → get_or small k 0 < bound
  pub same : (j k : ℕ) → j < length numbers → k < length numbers → same_at small j k ≡ same_at numbers j k
