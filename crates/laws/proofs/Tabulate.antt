-- Laws of lists given cell by cell: `length-tabulate`, `get_d_tabulate`, `tabulate_ext`, `tabulate-cells`. Assumes nothing.
use Prim.Native.Nat.{ℕ, zero, suc, ◌<◌, zero-le, suc-le-suc}
use mathlib.Core.Path.{◌≡◌, refl, ap, ap₂}
use mathlib.Core.List.{List, [], ◌∷◌}
use native.Mathlib.Nat.{not-suc-le-zero, le_of_suc-le-suc}
use native.Mathlib.Omega.{arith}
use lib.ListN.{length, get_or}
use Rattle.laws.specs.Below.{tabulate}

module _ {A : Type 0} where
  pub length-tabulate : (n : ℕ) (f : ℕ → A) → length (tabulate n f) ≡ n
  length-tabulate zero f = refl
  length-tabulate (suc n) f = ap suc (length-tabulate n (λ k. f (suc k)))

  pub get_d_tabulate : (n : ℕ) (f : ℕ → A) (k : ℕ) (z : A) → k < n → get_or (tabulate n f) k z ≡ f k
  get_d_tabulate zero f k z l = absurd (not-suc-le-zero l)
  get_d_tabulate (suc n) f zero z l = refl
  get_d_tabulate (suc n) f (suc k) z l = get_d_tabulate n (λ j. f (suc j)) k z (le_of_suc-le-suc l)

  -- lists that agree below n
  pub tabulate_ext : (n : ℕ) (f g : ℕ → A) → ((k : ℕ) → k < n → f k ≡ g k) → tabulate n f ≡ tabulate n g
  tabulate_ext zero f g e = refl
  tabulate_ext (suc n) f g e = ap₂ ◌∷◌ (e 0 (suc-le-suc zero-le)) (tabulate_ext n (λ k. f (suc k)) (λ k. g (suc k)) (λ k l. e (suc k) (suc-le-suc l)))

  -- a list by its own cells
  pub tabulate-cells : (n : ℕ) (xs : List A) (z : A) → length xs ≡ n → tabulate n (λ k. get_or xs k z) ≡ xs
  tabulate-cells zero [] z e = refl
  tabulate-cells zero (x ∷ xs) z e = absurd (omega (arith, e))
  tabulate-cells (suc n) [] z e = absurd (omega (arith, e))
  tabulate-cells (suc n) (x ∷ xs) z e = ap (λ l. x ∷ l) (tabulate-cells n xs z (omega (arith, e)))
