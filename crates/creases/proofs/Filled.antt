-- A list whose cells are all written, one after the other: `filled-start`, `filled_on`, `filled_long`, `filled_all`. Assumes nothing.
use Prim.Native.Nat.{ℕ, ◌+◌, ◌≤◌, ◌<◌}
use mathlib.Core.Path.{◌≡◌, refl, ap, ◌∙◌}
use mathlib.Core.List.{List, append-nil}
use native.Mathlib.Omega.{arith}
use lib.ListN.{length, set, drop_of_length-le}
use Rattle.laws.specs.Below.{tabulate}
use Rattle.laws.specs.Parts.{in_front}
use Rattle.laws.proofs.Parts.{length-in_front}
use Rattle.laws.proofs.Tabulate.{length-tabulate}
use Rattle.laws.proofs.Filling.{over_next}

-- the first k cells of xs are written, by f
pub record Filled {A : Type 0} (f : ℕ → A) (xs ys : List A) (k : ℕ) : Type 0 where
  pub so_far : ys ≡ in_front (tabulate k f) xs
  pub within : k ≤ length xs

module _ {A : Type 0} (f : ℕ → A) where
  pub filled-start : (xs : List A) → Filled f xs xs 0
  filled-start xs = record { so_far = refl; within = omega arith }

  module _ {xs ys : List A} {k : ℕ} (p : Filled f xs ys k) where
    pub filled_long : length ys ≡ length xs
    filled_long = ap length p.so_far ∙ length-in_front (tabulate k f) xs (rw (length-tabulate k f) p.within)

    pub filled_on : {a : A} → k < length xs → a ≡ f k → Filled f xs (set ys k a) (k + 1)
    filled_on {a} l e = record { so_far = over_next xs ys f k a (omega (arith, filled_long)) p.so_far e; within = omega arith }

    pub filled_all : length xs ≤ k → ys ≡ tabulate (length xs) f
    filled_all l =
        let e : k ≡ length xs = omega (arith, p.within) in
        p.so_far ∙ rw (drop_of_length-le xs {i = length (tabulate k f)} (rw (length-tabulate k f) l), append-nil, e)
