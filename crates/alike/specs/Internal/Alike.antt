-- Items 0 to n - 1, each in a group and with a label, both small numbers: which of them are alike, and how the code finds it.
use Rattle.std.specs.Prelude.{ℕ, ◌≤◌, ◌<◌, ◌≡◌, Bool, ◌&&◌, List, eqb, length, get_or}
use Rattle.laws.specs.Below.{lowest}
use Rattle.alike.specs.Internal.Reach.{reach}

-- every group, every label and every item is below this number
abbrev pub bound : ℕ
bound = 4096

-- item j is in group g
abbrev pub in_group : List ℕ → ℕ → ℕ → Bool
in_group groups g j = eqb (get_or groups j 0) g

-- item j is in k's group and has k's label
abbrev pub alike : List ℕ → List ℕ → ℕ → ℕ → Bool
alike groups labels k j = in_group groups (get_or groups k 0) j && eqb (get_or labels j 0) (get_or labels k 0)

-- the first item that is like k
unfoldable pub first_like : List ℕ → List ℕ → ℕ → ℕ
first_like groups labels k = lowest (length groups) (alike groups labels k)

-- a table has the first item that is like each one
pub record Firsts (groups labels first : List ℕ) : Type 0 where
  pub each : (k : ℕ) → k < length groups → get_or first k 0 ≡ first_like groups labels k

-- what is asked of groups and labels
pub record Keyed (groups labels : List ℕ) : Type 0 where
  pub long : length labels ≡ length groups
  pub few : length groups ≤ bound
  pub group_below : (k : ℕ) → k < length groups → get_or groups k 0 < bound
  pub label_below : (k : ℕ) → k < length groups → get_or labels k 0 < bound

-- the first n items are chained: each group has its highest item, and each item the next lower one of its group, as one past its number,
-- 0 where there is none
pub record Chained (groups : List ℕ) (n : ℕ) (heads before : List ℕ) : Type 0 where
  pub head : (g : ℕ) → g < length heads → get_or heads g 0 ≡ reach n (in_group groups g)
  pub lower : (k : ℕ) → k < n → get_or before k 0 ≡ reach k (in_group groups (get_or groups k 0))

-- all items are, with a cell for each group and each item
pub record Ready (groups labels heads before : List ℕ) : Type 0 where
  pub keyed : Keyed groups labels
  pub buckets : length heads ≡ bound
  pub room : length groups ≤ length before
  pub chained : Chained groups (length groups) heads before

-- the chain of group g starts at a head
pub record Chain (groups labels before : List ℕ) (g head : ℕ) : Type 0 where
  pub keyed : Keyed groups labels
  pub room : length groups ≤ length before
  pub starts : head ≡ reach (length groups) (in_group groups g)
  pub lower : (k : ℕ) → k < length groups → get_or before k 0 ≡ reach k (in_group groups (get_or groups k 0))

-- of each label in group g a table has the first item there
pub record Marked (groups labels : List ℕ) (g : ℕ) (marks : List ℕ) : Type 0 where
  pub each : (k : ℕ) → k < length groups → get_or groups k 0 ≡ g → get_or marks (get_or labels k 0) 0 ≡ first_like groups labels k

-- the items of group g have their first, and every other item what it had
pub record Told (groups labels : List ℕ) (g : ℕ) (entry exit : List ℕ) : Type 0 where
  pub same : (k : ℕ) → k < length groups → get_or groups k 0 ≡ g → get_or exit k 0 ≡ first_like groups labels k
  pub kept : (k : ℕ) → (get_or groups k 0 ≡ g → ⊥) → get_or exit k 0 ≡ get_or entry k 0
