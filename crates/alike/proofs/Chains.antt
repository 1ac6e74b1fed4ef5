-- Chains of a group's items. Assumes nothing.
--     chained_none, chained_on          how they are made, item after item
--     At, at_head, at_next              a place of a chain: it is 0 or one past an item of the group, and no item is passed over
use Prim.Native.Nat.{ℕ, suc, ◌+◌, ◌-◌, ◌≤◌, ◌<◌}
use mathlib.Core.Path.{◌≡◌, refl, sym, ◌∙◌}
use mathlib.Core.Logic.{◌≢◌}
use mathlib.Core.List.{List}
use native.Mathlib.Decide.{ℕ_discrete}
use native.Mathlib.Nat.{not-suc-le-zero}
use native.Mathlib.Numerals.{add-one}
use native.Mathlib.Omega.{arith}
use lib.ListN.{length, get_or, set, length-set}
use lib.Seq.{get_or-set_same, get_or-set_other}
use borrow.Author.Tests.{eq-eqb, ne_eqb, eqb-true}
use Rattle.alike.specs.Internal.Reach.{reach}
use Rattle.alike.specs.Internal.Alike.{in_group, Chained, Chain}
use Rattle.alike.proofs.Reached.{reach_none, reach_here, reach_lower, reach_at_most, reach_passes, reach-past}

pub chained_none : (groups heads before : List ℕ) → ((g : ℕ) → g < length heads → get_or heads g 0 ≡ 0) → Chained groups 0 heads before
chained_none groups heads before z = record { head = λ g l. z g l ∙ sym (reach_none (in_group groups g)); lower = λ k l. absurd (not-suc-le-zero l) }

pub chained_on :
    (groups : List ℕ) (n : ℕ) (heads before : List ℕ) → get_or groups n 0 < length heads → n < length before → Chained groups n heads before → Chained groups (n + 1) (set heads (get_or groups n 0) (n + 1)) (set before n (get_or heads (get_or groups n 0) 0))
chained_on groups n heads before lg ln c =
    record {
      head = λ g l. rw add-one (head g (simp length-set at l) (ℕ_discrete (get_or groups n 0) g));
      lower = λ k l. lower k (omega arith) (ℕ_discrete k n);
    }
  where
    head : (g : ℕ) → g < length heads → Dec (get_or groups n 0 ≡ g) → get_or (set heads (get_or groups n 0) (suc n)) g 0 ≡ reach (suc n) (in_group groups g)
    head g l (yes e) =
        rw (← e)
        (get_or-set_same heads (get_or groups n 0) (suc n) 0 lg ∙ sym (reach_here n (in_group groups (get_or groups n 0)) (eq-eqb (get_or groups n 0) (get_or groups n 0) refl)))
    head g l (no e) =
        get_or-set_other heads (get_or groups n 0) g (suc n) 0 (λ q. e (sym q)) ∙ c.head g l ∙ sym (reach_lower n (in_group groups g) (ne_eqb (get_or groups n 0) g e))

    lower : (k : ℕ) → k ≤ n → Dec (k ≡ n) → get_or (set before n (get_or heads (get_or groups n 0) 0)) k 0 ≡ reach k (in_group groups (get_or groups k 0))
    lower k l (yes e) = rw e (get_or-set_same before n (get_or heads (get_or groups n 0) 0) 0 ln ∙ c.head (get_or groups n 0) lg)
    lower k l (no e) = get_or-set_other before n k (get_or heads (get_or groups n 0) 0) 0 e ∙ c.lower k (omega (arith, e))

-- a place of group g's chain
pub record At (groups : List ℕ) (g end : ℕ) : Type 0 where
  pub below : end ≤ length groups
  pub here : end ≢ 0 → get_or groups (end - 1) 0 ≡ g

module _ {groups labels before : List ℕ} {g head : ℕ} (c : Chain groups labels before g head) where
  at : (m : ℕ) → m ≤ length groups → At groups g (reach m (in_group groups g))
  at m l =
      record {
        below = omega (arith, reach_at_most m (in_group groups g));
        here = λ n. eqb-true _ _ (reach_passes m (in_group groups g) (reach m (in_group groups g) - 1) (omega (arith, n)));
      }

  pub at_head : At groups g head
  at_head = rw c.starts (at (length groups) (omega arith))

  -- no item of the group stands past its head
  pub past_head : (k : ℕ) → k < length groups → get_or groups k 0 ≡ g → k < head
  past_head k l e = rw c.starts (reach-past (length groups) (in_group groups g) k l (eq-eqb _ _ e))

  module _ {end : ℕ} (a : At groups g end) (n : end ≢ 0) where
    pub item_below : end - 1 < length groups
    item_below = omega (arith, n, a.below)

    link : get_or before (end - 1) 0 ≡ reach (end - 1) (in_group groups g)
    link = c.lower (end - 1) item_below ∙ ap_group (a.here n)
      where
        ap_group : {b : ℕ} → b ≡ g → reach (end - 1) (in_group groups b) ≡ reach (end - 1) (in_group groups g)
        ap_group e = rw e

    pub at_next : At groups g (get_or before (end - 1) 0)
    at_next = rw link (at (end - 1) (omega (arith, item_below)))

    pub next_less : get_or before (end - 1) 0 < end
    next_less = rw link (omega (arith, n, reach_at_most (end - 1) (in_group groups g)))

    -- between an item and the next lower one there is none of the group
    pub none_between : (k : ℕ) → get_or before (end - 1) 0 ≤ k → k < end → get_or groups k 0 ≡ g → k ≡ end - 1
    none_between k l m e = by (ℕ_discrete k (end - 1))
      where
        by : Dec (k ≡ end - 1) → k ≡ end - 1
        by (yes q) = q
        by (no q) = absurd (omega (arith, n, q, link, reach-past (end - 1) (in_group groups g) k (omega (arith, n, q)) (eq-eqb _ _ e)))
