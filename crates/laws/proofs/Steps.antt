-- Laws of steps taken one after the other: `steps_none`, `steps_more`, `steps_on`, `steps_end`, `steps_three`, `steps_three_on`,
-- in two parts, `steps_add`, `steps_on_from`, and induction, `steps_keep`. Assumes nothing.
use Prim.Native.Nat.{ℕ, zero, suc, ◌+◌, ◌-◌, ◌*◌, ◌≤◌, ◌<◌}
use mathlib.Core.Path.{◌≡◌, refl, sym, ap, ◌∙◌}
use native.Mathlib.Nat.{add-zero, add-suc}
use native.Mathlib.Numerals.{add-one}
use native.Mathlib.Omega.{arith}
use Rattle.laws.specs.Internal.Steps.{steps}

module _ {A : Type 0} (f : ℕ → A → A) (x : A) where
  pub steps_none : steps 0 f x ≡ x
  unfolding steps
  steps_none = refl

  pub steps_more : (n : ℕ) → steps (n + 1) f x ≡ f n (steps n f x)
  unfolding steps
  steps_more n = rw add-one

  -- a loop's turn
  pub steps_on : (n : ℕ) {y z : A} → y ≡ steps n f x → z ≡ f n y → z ≡ steps (n + 1) f x
  steps_on n e d = d ∙ ap (f n) e ∙ sym (steps_more n)

  -- a loop that has come to its last turn
  pub steps_end : {n m : ℕ} {y : A} → y ≡ steps n f x → n ≡ m → y ≡ steps m f x
  steps_end e q = e ∙ ap (λ k. steps k f x) q

  -- three at once, as of a triangle's three halfedges
  pub steps_three : (n : ℕ) → steps (3 * (n + 1)) f x ≡ f (3 * n + 2) (f (3 * n + 1) (f (3 * n) (steps (3 * n) f x)))
  unfolding steps
  steps_three n =
      let e : 3 * (n + 1) ≡ 3 * n + 2 + 1 = omega arith in
      let d : 3 * n + 2 ≡ 3 * n + 1 + 1 = omega arith in
      ap (λ m. steps m f x) e ∙ steps_more (3 * n + 2)
      ∙ ap (f (3 * n + 2)) (ap (λ m. steps m f x) d ∙ steps_more (3 * n + 1) ∙ ap (f (3 * n + 1)) (steps_more (3 * n)))

  pub steps_three_on : (n : ℕ) {y z : A} → y ≡ steps (3 * n) f x → z ≡ f (3 * n + 2) (f (3 * n + 1) (f (3 * n) y)) → z ≡ steps (3 * (n + 1)) f x
  steps_three_on n e d = d ∙ ap (λ q. f (3 * n + 2) (f (3 * n + 1) (f (3 * n) q))) e ∙ sym (steps_three n)

  -- what each step keeps holds after all of them
  pub steps_keep : (P : ℕ → A → Type 0) (n : ℕ) → P 0 x → ((i : ℕ) → i < n → (y : A) → P i y → P (suc i) (f i y)) → (i : ℕ) → i ≤ n → P i (steps i f x)
  unfolding steps
  steps_keep P n start step zero l = start
  steps_keep P n start step (suc i) l = step i l (steps i f x) (steps_keep P n start step i (omega arith))

-- steps in two parts
pub steps_add : {A : Type 0} (f : ℕ → A → A) (x : A) (m n : ℕ) → steps (m + n) f x ≡ steps n (λ j. f (m + j)) (steps m f x)
unfolding steps
steps_add f x m zero = ap (λ k. steps k f x) (add-zero m)
steps_add f x m (suc n) = ap (λ k. steps k f x) (add-suc m n) ∙ ap (f (m + n)) (steps_add f x m n)

-- a turn of the second part
pub steps_on_from : {A : Type 0} (f : ℕ → A → A) (x : A) (m i : ℕ) {y z : A} → m ≤ i → y ≡ steps (i - m) (λ j. f (m + j)) x → z ≡ f i y → z ≡ steps (i + 1 - m) (λ j. f (m + j)) x
steps_on_from f x m i {y} l e d =
    let at : i ≡ m + (i - m) = omega arith in
    steps_end (λ j. f (m + j)) x (steps_on (λ j. f (m + j)) x (i - m) e (d ∙ ap (λ k. f k y) at)) (omega arith)
