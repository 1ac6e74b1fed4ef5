-- Which edges of a level are inner creases. Assumes nothing.
--     any_listed                      some crease of the cage's list passes a test
--     outline_is                      how many edges come of the cage's, as the machine shifts
--     part_below, past_none           an edge among them comes of one of the cage's, and any other is no crease
--     none_sharp                      none is one where no edge of the cage stays sharp
--     sharp_is                        the same by the level's own numbers
use Prim.Native.Nat.{ℕ, zero, suc, ◌-◌, ◌*◌, ◌/◌, ◌%◌, ◌^◌, ◌≤◌, ◌<◌}
use mathlib.Core.Path.{◌≡◌, refl, sym, ap, ◌∙◌}
use mathlib.Core.Bool.{Bool, true, false, ◌||◌}
use mathlib.Core.List.{List, [], ◌∷◌}
use native.Mathlib.Decide.{dec_lt}
use native.Mathlib.Nat.{le-div_iff_mul-le, div-lt_iff_lt-mul}
use native.Mathlib.Omega.{arith}
use lib.Dec.{ltb}
use lib.ListN.{length, get_or-eq_default}
use lib.Pow.{pow_pos, shl_exact}
use borrow.Author.Tests.{lt-ltb, le-ltb}
use Rattle.std.specs.List.{list_any}
use Rattle.laws.specs.Below.{any}
use Rattle.laws.proofs.Tests.{any_false, or_false_right}
use Rattle.halfedges.specs.Cage.{cell}
use Rattle.seams.specs.Internal.Seams.{stays_sharp, any_sharp, sharp_at, Limited}

-- some of the cage's creases stay sharp where one of the list does
front : (n : ℕ) (p : ℕ → Bool) → any (suc n) p ≡ p 0 || any n (λ k. p (suc k))
front zero p = sym (or_false_right (p 0))
front (suc n) p = ap (λ b. b || p (suc n)) (front n p) ∙ together (p 0) (any n (λ k. p (suc k))) (p (suc n))
  where
    together : (a b c : Bool) → ((a || b) || c) ≡ (a || (b || c))
    together true b c = refl
    together false b c = refl

pub any_listed : (test : ℕ → Bool) (xs : List ℕ) → list_any test xs ≡ any (length xs) (λ k. test (cell xs k))
any_listed test [] = refl
any_listed test (x ∷ xs) = ap (λ b. test x || b) (any_listed test xs) ∙ sym (front (length xs) (λ k. test (cell (x ∷ xs) k)))

module _ (creases : List ℕ) (level : ℕ) where
  pub outline_is : Limited creases level → (length creases * 2 ^ level) % 18446744073709551616 ≡ length creases * 2 ^ level
  outline_is limited = shl_exact {a = length creases} 12 level 64 (omega (arith, limited.few)) (omega (arith, limited.deep))

  -- past the cage's edges there is no number
  past : (i : ℕ) → length creases ≤ i → stays_sharp creases level i ≡ false
  past i l = rw (get_or-eq_default creases 0 {n = i} l) (le-ltb level 0 (omega arith))

  module _ (e : ℕ) where
    pub part_below : e < length creases * 2 ^ level → e / 2 ^ level < length creases
    part_below l = (div-lt_iff_lt-mul (pow_pos level)).1 l

    pub past_none : length creases * 2 ^ level ≤ e → sharp_at creases level e ≡ false
    unfolding sharp_at
    past_none l = past (e / 2 ^ level) ((le-div_iff_mul-le (pow_pos level)).1 l)

    -- none is, where no edge of the cage stays sharp
    pub none_sharp : any_sharp creases level ≡ false → sharp_at creases level e ≡ false
    unfolding any_sharp sharp_at
    none_sharp f = by (dec_lt (e / 2 ^ level) (length creases))
      where
        by : Dec (e / 2 ^ level < length creases) → stays_sharp creases level (e / 2 ^ level) ≡ false
        by (yes l) = any_false (stays_sharp creases level) (length creases) f (e / 2 ^ level) l
        by (no l) = past (e / 2 ^ level) (omega (arith, l))

    pub sharp_is : {number : ℕ} → number ≡ cell creases (e / 2 ^ level) - level → sharp_at creases level e ≡ ltb 0 number
    unfolding sharp_at
    sharp_is {number} q = by (dec_lt level (cell creases (e / 2 ^ level)))
      where
        by : Dec (level < cell creases (e / 2 ^ level)) → ltb level (cell creases (e / 2 ^ level)) ≡ ltb 0 number
        by (yes l) = lt-ltb level _ l ∙ sym (lt-ltb 0 number (omega arith))
        by (no l) = le-ltb level _ (omega (arith, l)) ∙ sym (le-ltb 0 number (omega (arith, l)))
