-- A clause that is told alike, of the same rule, is the same (`clause_alike`). Assumes nothing.
use Prim.Native.Nat.{ℕ}
use mathlib.Core.Path.{◌≡◌, refl, sym, ◌∙◌}
use mathlib.Core.Logic.{◌≢◌}
use mathlib.Core.Bool.{false}
use mathlib.Core.List.{List, [], ◌∷◌}
use lib.Dec.{eqb}
use lib.ListN.{get_or}
use borrow.Author.Tests.{eqb-false}
use Rattle.clauses.specs.declared.Clause.{Clause as Kind}
use Rattle.clauses.specs.declared.Clause.TheVariants.{TwinPast, TwinItself, NotReturned, VertexPast, EndsAlike, TwinEndsDiffer, Unused, EdgePast, EdgeDiffers, EdgeShared, Apart}
use Rattle.clauses.specs.Clauses.{Clause}
use Rattle.clauses.specs.Shown.{named, broken}

-- the clauses of a rule by its number, with these numbers
of_rule : Clause → List (List Kind)
of_rule c =
    let x = c.first in
    let y = c.second in
    [] ∷ [] ∷ []
    ∷ (TwinPast x y ∷ TwinPast x y ∷ TwinItself x ∷ NotReturned x y ∷ [])
    ∷ (VertexPast x y ∷ VertexPast x y ∷ EndsAlike x y ∷ TwinEndsDiffer x y c.third ∷ [])
    ∷ (Unused x ∷ Unused x ∷ [])
    ∷ (EdgePast x y ∷ EdgePast x y ∷ EdgeDiffers x y c.third ∷ EdgeShared x y ∷ [])
    ∷ (Apart x y ∷ Apart x y ∷ [])
    ∷ []

back : ℕ → Clause → Kind
back rule c = get_or (get_or (of_rule c) rule []) c.number (Unused 0)

back_named : (k : Kind) (p : ℕ) → back (broken k p).number (named k) ≡ k
unfolding back of_rule
back_named (TwinPast t n) p = refl
back_named (TwinItself t) p = refl
back_named (NotReturned t b) p = refl
back_named (VertexPast u v) p = refl
back_named (EndsAlike u n) p = refl
back_named (TwinEndsDiffer t s e) p = refl
back_named (Unused v) p = refl
back_named (EdgePast e n) p = refl
back_named (EdgeDiffers t e o) p = refl
back_named (EdgeShared e g) p = refl
back_named (Apart g h) p = refl

pub clause_alike : (k l : Kind) (p q : ℕ) → broken k p ≡ broken l q → named k ≡ named l → k ≡ l
clause_alike k l p q e f = sym (back_named k p) ∙ (λ i. back (e i).number (f i)) ∙ back_named l q

-- the place is the one that was given
pub broken_place : (k : Kind) (p : ℕ) → (broken k p).place ≡ p
broken_place (TwinPast t n) p = refl
broken_place (TwinItself t) p = refl
broken_place (NotReturned t b) p = refl
broken_place (VertexPast u v) p = refl
broken_place (EndsAlike u n) p = refl
broken_place (TwinEndsDiffer t s e) p = refl
broken_place (Unused v) p = refl
broken_place (EdgePast e n) p = refl
broken_place (EdgeDiffers t e o) p = refl
broken_place (EdgeShared e g) p = refl
broken_place (Apart g h) p = refl

is_numbered : (k : Kind) → eqb (named k).number 0 ≡ false
is_numbered (TwinPast t n) = refl
is_numbered (TwinItself t) = refl
is_numbered (NotReturned t b) = refl
is_numbered (VertexPast u v) = refl
is_numbered (EndsAlike u n) = refl
is_numbered (TwinEndsDiffer t s e) = refl
is_numbered (Unused v) = refl
is_numbered (EdgePast e n) = refl
is_numbered (EdgeDiffers t e o) = refl
is_numbered (EdgeShared e g) = refl
is_numbered (Apart g h) = refl

-- no clause has the number 0
pub clause_number : (k : Kind) → (named k).number ≢ 0
clause_number k = eqb-false (named k).number 0 (is_numbered k)

is_refused : (k : Kind) (p : ℕ) → eqb (broken k p).number 0 ≡ false
is_refused (TwinPast t n) p = refl
is_refused (TwinItself t) p = refl
is_refused (NotReturned t b) p = refl
is_refused (VertexPast u v) p = refl
is_refused (EndsAlike u n) p = refl
is_refused (TwinEndsDiffer t s e) p = refl
is_refused (Unused v) p = refl
is_refused (EdgePast e n) p = refl
is_refused (EdgeDiffers t e o) p = refl
is_refused (EdgeShared e g) p = refl
is_refused (Apart g h) p = refl

-- nor its rule
pub broken_number : (k : Kind) (p : ℕ) → (broken k p).number ≢ 0
broken_number k p = eqb-false (broken k p).number 0 (is_refused k p)
