-- A loop that goes up to the first place where a test holds: `upto_none` where it starts, `upto_more` one place on, `upto_found` where the
-- test holds, `upto_all` where it held nowhere. Assumes nothing.
use Prim.Native.Nat.{ℕ, ◌+◌, ◌≤◌, ◌<◌}
use mathlib.Core.Path.{◌≡◌, sym, ◌∙◌}
use mathlib.Core.Bool.{Bool, true, false}
use native.Mathlib.Omega.{arith}
use borrow.Author.Count.{below_none, below_more}
use Rattle.halfedges.specs.Refusals.{Verdict, DONE, given_at}
use Rattle.halfedges.proofs.Checks.{Clean, given_here, clean_done}

pub upto_none : (bad : ℕ → Bool) → Clean 0 bad
upto_none bad = below_none (λ j. bad j ≡ false)

-- b is what the test says of k
module _ {k : ℕ} {bad : ℕ → Bool} {b : Bool} (u : Clean k bad) (e : b ≡ bad k) where
  pub upto_more : b ≡ false → Clean (k + 1) bad
  upto_more f = below_more (λ j. bad j ≡ false) k u (sym e ∙ f)

  pub upto_found : {n : ℕ} (at : ℕ → Verdict) → k < n → b ≡ true → at k ≡ given_at n bad at
  upto_found {n} at l t = sym (given_here n bad at k l (sym e ∙ t) u)

pub upto_all : {n k : ℕ} {bad : ℕ → Bool} (at : ℕ → Verdict) → Clean k bad → n ≤ k → DONE ≡ given_at n bad at
upto_all {n} {k} {bad} at u l = sym (clean_done n bad at (λ j m. u j (omega arith)))
