-- Items that are alike, and the first of them. Assumes nothing.
--     like_group, like_label, like_both      what two items that are alike have in common, and back
--     first_like_lem, first_least                the first is like the item, and no lower one is
use Prim.Native.Nat.{ℕ, ◌≤◌, ◌<◌}
use mathlib.Core.Path.{◌≡◌, refl}
use mathlib.Core.Bool.{true}
use mathlib.Core.List.{List}
use lib.ListN.{length, get_or}
use borrow.Author.Tests.{eq-eqb, eqb-true}
use Rattle.laws.proofs.Tests.{and_true}
use Rattle.laws.proofs.Lowest.{lowest_passes, lowest_at_most}
use Rattle.alike.specs.Internal.Alike.{in_group, alike, first_like}

module _ (groups labels : List ℕ) where
  pub like_group : (k j : ℕ) → alike groups labels k j ≡ true → get_or groups j 0 ≡ get_or groups k 0
  like_group k j e = eqb-true _ _ (and_true (in_group groups (get_or groups k 0) j) _ e).0

  pub like_label : (k j : ℕ) → alike groups labels k j ≡ true → get_or labels j 0 ≡ get_or labels k 0
  like_label k j e = eqb-true _ _ (and_true (in_group groups (get_or groups k 0) j) _ e).1

  pub like_both : (k j : ℕ) → get_or groups j 0 ≡ get_or groups k 0 → get_or labels j 0 ≡ get_or labels k 0 → alike groups labels k j ≡ true
  like_both k j e f = rw (eq-eqb _ _ e, eq-eqb _ _ f)

  pub first_like_lem : (k : ℕ) → k < length groups → alike groups labels k (first_like groups labels k) ≡ true
  unfolding first_like
  first_like_lem k l = lowest_passes (length groups) (alike groups labels k) k l (like_both k k refl refl)

  pub first_least : (k j : ℕ) → j < length groups → alike groups labels k j ≡ true → first_like groups labels k ≤ j
  unfolding first_like
  first_least k j l e = lowest_at_most (length groups) (alike groups labels k) j l e
