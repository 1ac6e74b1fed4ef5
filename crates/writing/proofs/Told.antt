-- The promise of writing determines its result: two told alike are the same (`wrote-alike`). Assumes nothing.
use Prim.Native.Nat.{ℕ}
use Rattle.std.specs.Prelude.{Result}
use mathlib.Core.Path.{◌≡◌}
use Rattle.halfedges.specs.declared.refusal.Refusal.{Refusal}
use Rattle.halfedges.proofs.Told.{answered-alike}
use Rattle.writing.specs.Writing.{wrote}

pub wrote-alike : (a b : Result ℕ Refusal) → wrote a ≡ wrote b → a ≡ b
wrote-alike = answered-alike _ _ (λ a b e. e)
