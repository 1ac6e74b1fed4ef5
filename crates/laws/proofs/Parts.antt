-- Laws of parts of lists: `length_part`, `part_at`, `length-in_front`. Assumes nothing.
use Prim.Native.Nat.{ℕ, ◌+◌, ◌≤◌, ◌<◌}
use mathlib.Core.Path.{◌≡◌}
use mathlib.Core.List.{List}
use native.Mathlib.Omega.{arith}
use lib.ListN.{length, get_or, drop, length-append, length-take, length-drop}
use lib.Seq.{get_or-take, get_or-drop}
use Rattle.laws.specs.Internal.Parts.{part}
use Rattle.laws.specs.Parts.{in_front}

module _ {A : Type 0} (xs : List A) (at n : ℕ) where
  pub length_part : at + n ≤ length xs → length (part xs at n) ≡ n
  length_part l = simp (length-take, length-drop) (omega arith)

  pub part_at : (i : ℕ) (z : A) → i < n → get_or (part xs at n) i z ≡ get_or xs (at + i) z
  part_at i z l = rw (get_or-take n (drop at xs) i z l, get_or-drop at xs i z)

pub length-in_front : {A : Type 0} (cells xs : List A) → length cells ≤ length xs → length (in_front cells xs) ≡ length xs
length-in_front cells xs l = simp (length-append, length-drop) (omega arith)
