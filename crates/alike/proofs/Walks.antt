-- Down a group's chain. Assumes nothing.
--     Lower, lower_start, lower_on, lower_end      of each label, the lowest item that was met is marked
--     Gone, gone_start, gone_on                    each item that was met has its first, and no item of another group changed
--     Groups                                       one group after the other
use Prim.Native.Nat.{ℕ, ◌-◌, ◌≤◌, ◌<◌}
use mathlib.Core.Path.{◌≡◌, refl, sym, ap, ◌∙◌}
use mathlib.Core.Logic.{◌≢◌}
use mathlib.Core.Bool.{true}
use mathlib.Core.List.{List}
use native.Mathlib.Decide.{ℕ_discrete, dec_lt}
use native.Mathlib.Omega.{arith}
use lib.ListN.{length, get_or, set}
use lib.Seq.{get_or-set_same, get_or-set_other}
use Rattle.laws.specs.Below.{lowest}
use Rattle.laws.proofs.Tests.{by-test}
use Rattle.laws.proofs.Lowest.{lowest_is}
use Rattle.alike.specs.Internal.Alike.{alike, first_like, Chain, Marked}
use Rattle.alike.proofs.Firsts.{like_group, like_label, like_both}
use Rattle.alike.proofs.Chains.{At, past_head, item_below, next_less, none_between}

module _ (groups labels : List ℕ) where
  -- m is the lowest item that is like k, of those from `end` on
  pub record LowestFrom (end k m : ℕ) : Type 0 where
    pub from : end ≤ m
    pub within : m < length groups
    pub like : alike groups labels k m ≡ true
    pub least : (j : ℕ) → end ≤ j → j < length groups → alike groups labels k j ≡ true → m ≤ j

  -- of each label in group g the lowest item from `end` on is marked
  pub record Lower (g end : ℕ) (marks : List ℕ) : Type 0 where
    pub each : (k : ℕ) → k < length groups → get_or groups k 0 ≡ g → end ≤ k → LowestFrom end k (get_or marks (get_or labels k 0) 0)

  -- the items of group g from `end` on have their first, and no item of another group changed
  pub record Gone (g : ℕ) (entry : List ℕ) (end : ℕ) (now : List ℕ) : Type 0 where
    pub same : (k : ℕ) → k < length groups → get_or groups k 0 ≡ g → end ≤ k → get_or now k 0 ≡ first_like groups labels k
    pub kept : (k : ℕ) → get_or groups k 0 ≢ g → get_or now k 0 ≡ get_or entry k 0

  -- the items of the groups below g have their first
  pub record Groups (g : ℕ) (first : List ℕ) : Type 0 where
    pub each : (k : ℕ) → k < length groups → get_or groups k 0 < g → get_or first k 0 ≡ first_like groups labels k

  module _ {before : List ℕ} {g head : ℕ} (c : Chain groups labels before g head) where
    pub lower_start : (marks : List ℕ) → Lower g head marks
    lower_start marks = record { each = λ k l e m. absurd (omega (arith, past_head c k l e)) }

    module _ {end : ℕ} (a : At groups g end) (n : end ≢ 0) (marks : List ℕ) (inside : get_or labels (end - 1) 0 < length marks) (w : Lower g end marks) where
      abbrev next : ℕ
      next = get_or before (end - 1) 0

      -- the items of the group from the next one on are the one that is met and those before it
      from_next : (j : ℕ) → next ≤ j → get_or groups j 0 ≡ g → j ≢ end - 1 → end ≤ j
      from_next j l e q = by (dec_lt j end)
        where
          by : Dec (j < end) → end ≤ j
          by (yes b) = absurd (q (none_between c a n j l b e))
          by (no b) = omega (arith, b)

      at : (k : ℕ) → k < length groups → get_or groups k 0 ≡ g → next ≤ k → Dec (get_or labels k 0 ≡ get_or labels (end - 1) 0) → LowestFrom next k (get_or (set marks (get_or labels (end - 1) 0) (end - 1)) (get_or labels k 0) 0)
      at k l e m (yes q) =
          rw (q, get_or-set_same marks (get_or labels (end - 1) 0) (end - 1) 0 inside)
          record {
            from = omega (arith, next_less c a n);
            within = item_below c a n;
            like = like_both groups labels k (end - 1) (a.here n ∙ sym e) (sym q);
            least = λ j lj mj t. by j (from_next j lj (like_group groups labels k j t ∙ e)) (ℕ_discrete j (end - 1));
          }
        where
          by : (j : ℕ) → (j ≢ end - 1 → end ≤ j) → Dec (j ≡ end - 1) → end - 1 ≤ j
          by j f (yes z) = omega arith
          by j f (no z) = omega (arith, f z)
      at k l e m (no q) =
          rw (get_or-set_other marks (get_or labels (end - 1) 0) (get_or labels k 0) (end - 1) 0 q)
          (on (w.each k l e (from_next k m e (λ z. q (ap (λ i. get_or labels i 0) z)))))
        where
          on : {x : ℕ} → LowestFrom end k x → LowestFrom next k x
          on f =
              record {
                from = omega (arith, next_less c a n, f.from);
                within = f.within;
                like = f.like;
                least = λ j lj mj t. f.least j (from_next j lj (like_group groups labels k j t ∙ e) (λ z. q (sym (like_label groups labels k j t) ∙ ap (λ i. get_or labels i 0) z))) mj t;
              }

      pub lower_on : Lower g next (set marks (get_or labels (end - 1) 0) (end - 1))
      lower_on = record { each = λ k l e m. at k l e m (ℕ_discrete (get_or labels k 0) (get_or labels (end - 1) 0)) }

    -- down to the end all items of the group were met
    pub lower_end : (marks : List ℕ) → Lower g 0 marks → Marked groups labels g marks
    unfolding first_like
    lower_end marks w = record { each = λ k l e. by k (w.each k l e (omega arith)) }
      where
        by : (k : ℕ) {m : ℕ} → LowestFrom 0 k m → m ≡ lowest (length groups) (alike groups labels k)
        by k {m} f =
            sym
            (lowest_is (length groups) (alike groups labels k) m f.within f.like
            (λ j b. by-test (alike groups labels k j) (λ t. absurd (omega (arith, f.least j (omega arith) (omega (arith, f.within)) t))) (λ n. n)))

    pub gone_start : (entry : List ℕ) → Gone g entry head entry
    gone_start entry = record { same = λ k l e m. absurd (omega (arith, past_head c k l e)); kept = λ k n. refl }

    module _ {end : ℕ} (a : At groups g end) (n : end ≢ 0) (entry now : List ℕ) (inside : end - 1 < length now) (w : Gone g entry end now) where
      gone_at : (k : ℕ) → k < length groups → get_or groups k 0 ≡ g → get_or before (end - 1) 0 ≤ k → Dec (k ≡ end - 1) → get_or (set now (end - 1) (first_like groups labels (end - 1))) k 0 ≡ first_like groups labels k
      gone_at k l e m (yes q) = rw q (get_or-set_same now (end - 1) (first_like groups labels (end - 1)) 0 inside)
      gone_at k l e m (no q) = get_or-set_other now (end - 1) k (first_like groups labels (end - 1)) 0 q ∙ w.same k l e (by (dec_lt k end))
        where
          by : Dec (k < end) → end ≤ k
          by (yes b) = absurd (q (none_between c a n k m b e))
          by (no b) = omega (arith, b)

      pub gone_on : {x : ℕ} → x ≡ first_like groups labels (end - 1) → Gone g entry (get_or before (end - 1) 0) (set now (end - 1) x)
      gone_on e =
          rw e
          record {
            same = λ k l f m. gone_at k l f m (ℕ_discrete k (end - 1));
            kept = λ k f. get_or-set_other now (end - 1) k _ 0 (λ q. f (ap (λ i. get_or groups i 0) q ∙ a.here n)) ∙ w.kept k f;
          }
