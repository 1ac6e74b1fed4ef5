-- Numbers negated where a test holds: their size (`turned_size`), their sums (`turned-total`), a choice of two (`turned_choice`), and each
-- point rule (`E1-turned`, `E2-turned`, `V2-turned`, `V3-turned`), since rounding is odd. Assumes nothing.
use Prim.Native.Nat.{ℕ}
use mathlib.Core.Path.{◌≡◌, refl, sym, ap₂, ◌∙◌}
use mathlib.Core.Bool.{Bool, true, false, cond}
use mathlib.Core.List.{List, [], ◌∷◌, map}
use lib.IntN.{ℤ, pos, nat_abs, neg_ℤ-neg_ℤ, neg_ℤ-+ℤ, ◌+ℤ◌, ◌*ℤ◌}
use Rattle.laws.specs.Totals.{total}
use Rattle.laws.proofs.Integers.{nat_abs_neg}
use Rattle.rounding.specs.Rounding.{round}
use Rattle.rounding.proofs.Nearest.{round_odd}
use Rattle.rounding.proofs.Scaled.{scaled_neg}
use Rattle.points.specs.declared.weights.Weight.{Weight}
use Rattle.points.specs.Weights.{share}
use Rattle.points.specs.PointRules.{E1, E2, V2, rest, V3}
use Rattle.mirror.specs.Mirror.{turned}

pub turned_zero : (b : Bool) → turned b (pos 0) ≡ pos 0
unfolding turned
turned_zero true = refl
turned_zero false = refl

pub turned_size : (b : Bool) (z : ℤ) → nat_abs (turned b z) ≡ nat_abs z
unfolding turned
turned_size true z = nat_abs_neg z
turned_size false z = refl

pub turned_twice : (b : Bool) (z : ℤ) → turned b (turned b z) ≡ z
unfolding turned
turned_twice true z = neg_ℤ-neg_ℤ z
turned_twice false z = refl

turned_add : (b : Bool) (x y : ℤ) → turned b x +ℤ turned b y ≡ turned b (x +ℤ y)
unfolding turned
turned_add true x y = sym (neg_ℤ-+ℤ x y)
turned_add false x y = refl

turned_scaled : (b : Bool) (c : ℕ) (z : ℤ) → pos c *ℤ turned b z ≡ turned b (pos c *ℤ z)
unfolding turned
turned_scaled true c z = scaled_neg c z
turned_scaled false c z = refl

turned_round : (b : Bool) (z : ℤ) (d : ℕ) → round (turned b z) d ≡ turned b (round z d)
unfolding turned
turned_round true z d = round_odd z d
turned_round false z d = refl

pub turned_choice : (test b : Bool) (u v : ℤ) {x y : ℤ} → x ≡ turned b u → y ≡ turned b v → cond test x y ≡ turned b (cond test u v)
turned_choice true b u v p q = p
turned_choice false b u v p q = q

pub turned-total : (b : Bool) (f g : ℕ → ℤ) → ((u : ℕ) → f u ≡ turned b (g u)) → (us : List ℕ) → total (map f us) ≡ turned b (total (map g us))
turned-total b f g each [] = sym (turned_zero b)
turned-total b f g each (u ∷ us) = ap₂ ◌+ℤ◌ (each u) (turned-total b f g each us) ∙ turned_add b (g u) (total (map g us))

module _ (test : Bool) where
  pub E1-turned : (a b : ℤ) → E1 (turned test a) (turned test b) ≡ turned test (E1 a b)
  unfolding E1
  E1-turned a b = rw (turned_add test a b) (turned_round test (a +ℤ b) 2)

  pub E2-turned : (a b c d : ℤ) → E2 (turned test a) (turned test b) (turned test c) (turned test d) ≡ turned test (E2 a b c d)
  unfolding E2
  E2-turned a b c d =
      let x = pos 3 *ℤ a +ℤ pos 3 *ℤ b in
      rw (turned_scaled test 3 a, turned_scaled test 3 b, turned_add test (pos 3 *ℤ a) (pos 3 *ℤ b), turned_add test x c, turned_add test (x +ℤ c) d)
      (turned_round test (x +ℤ c +ℤ d) 8)

  pub V2-turned : (v s : ℤ) → V2 (turned test v) (turned test s) ≡ turned test (V2 v s)
  unfolding V2
  V2-turned v s = rw (turned_scaled test 6 v, turned_add test (pos 6 *ℤ v) s) (turned_round test (pos 6 *ℤ v +ℤ s) 8)

  pub V3-turned : (w : Weight) (n : ℕ) (v s : ℤ) → V3 w n (turned test v) (turned test s) ≡ turned test (V3 w n v s)
  unfolding V3
  V3-turned w n v s =
      let own = rest (share w n) n in
      let part = (share w n).part in
      rw (turned_scaled test own v, turned_scaled test part s, turned_add test (pos own *ℤ v) (pos part *ℤ s))
      (turned_round test (pos own *ℤ v +ℤ pos part *ℤ s) (share w n).whole)
