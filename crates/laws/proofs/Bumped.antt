-- One cell of a list of numbers goes up by one: `bumped_at`. Assumes nothing.
use Prim.Native.Nat.{ℕ, ◌+◌, ◌<◌}
use mathlib.Core.Path.{◌≡◌, sym, ◌∙◌}
use mathlib.Core.Bool.{cond}
use mathlib.Core.List.{List}
use native.Mathlib.Decide.{ℕ_discrete}
use native.Mathlib.Omega.{arith}
use lib.Dec.{eqb}
use lib.ListN.{length, get_or, set}
use lib.Seq.{get_or-set_same, get_or-set_other}
use borrow.Author.Tests.{eq-eqb, ne_eqb}

pub bumped_at : (xs : List ℕ) (i : ℕ) → i < length xs → (x : ℕ) → get_or (set xs i (get_or xs i 0 + 1)) x 0 ≡ get_or xs x 0 + cond (eqb i x) 1 0
bumped_at xs i l x = by (ℕ_discrete i x)
  where
    by : Dec (i ≡ x) → get_or (set xs i (get_or xs i 0 + 1)) x 0 ≡ get_or xs x 0 + cond (eqb i x) 1 0
    by (yes e) = rw (eq-eqb i x e, ← e) (get_or-set_same xs i (get_or xs i 0 + 1) 0 l)
    by (no e) = rw (ne_eqb i x e) (get_or-set_other xs i x (get_or xs i 0 + 1) 0 (λ q. e (sym q)) ∙ omega arith)
