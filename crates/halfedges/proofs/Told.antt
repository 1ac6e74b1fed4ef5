-- A promise determines the result: two refusals told alike are the same (`refused-alike`), so are two results told alike
-- (`told-alike`), and so are two answers of the count question (`counted-alike`) and of the corner question (`cornered-alike`).
-- Assumes nothing.
use Rattle.std.specs.Prelude.{ℕ, Result, Ok, Err, IsErr, IsErrAnd, ⊤}
use mathlib.Core.Path.{◌≡◌, refl, sym, ap, ◌∙◌}
use mathlib.Core.Logic.{◌≢◌}
use mathlib.Core.Bool.{false}
use mathlib.Core.List.{List, [], ◌∷◌}
use lib.Dec.{eqb}
use lib.ListN.{get_or}
use borrow.Author.Tests.{eqb-false}
use Rattle.halfedges.specs.declared.refusal.Refusal.{Refusal}
use Rattle.halfedges.specs.declared.refusal.Refusal.TheVariants.{Shape, Limit, Twin, Vertex, Unused, Edge, Fan, Point, Room, Short, Field, Extra, Doubled, Valence, Crease, NotOld, NoSuchHalfedge}
use Rattle.halfedges.specs.declared.table.Levels.{Levels}
use Rattle.halfedges.specs.Refusals.{Verdict, DONE, refused, told, answered}
use Rattle.halfedges.specs.Counts.{counted}
use Rattle.halfedges.specs.Corners.{cornered}

-- the refusal that a verdict tells of
back : Verdict → Refusal
back v =
    get_or
    (Shape
    ∷ Shape
    ∷ Limit
    ∷ Twin v.place
    ∷ Vertex v.place
    ∷ Unused v.place
    ∷ Edge v.place
    ∷ Fan v.place
    ∷ Point v.place
    ∷ Room v.place
    ∷ Short v.place
    ∷ Field v.place
    ∷ Extra v.place
    ∷ Doubled v.place
    ∷ Valence v.place
    ∷ Crease v.place
    ∷ NotOld
    ∷ NoSuchHalfedge v.place
    ∷ [])
    v.number
    Shape

back_refused : (a : Refusal) → back (refused a) ≡ a
unfolding back
back_refused Shape = refl
back_refused Limit = refl
back_refused (Twin h) = refl
back_refused (Vertex h) = refl
back_refused (Unused v) = refl
back_refused (Edge h) = refl
back_refused (Fan v) = refl
back_refused (Point i) = refl
back_refused (Room t) = refl
back_refused (Short o) = refl
back_refused (Field o) = refl
back_refused (Extra o) = refl
back_refused (Doubled h) = refl
back_refused (Valence v) = refl
back_refused (Crease e) = refl
back_refused NotOld = refl
back_refused (NoSuchHalfedge h) = refl

pub refused-alike : (a b : Refusal) → refused a ≡ refused b → a ≡ b
refused-alike a b e = sym (back_refused a) ∙ ap back e ∙ back_refused b

is_numbered : (a : Refusal) → eqb (refused a).number 0 ≡ false
is_numbered Shape = refl
is_numbered Limit = refl
is_numbered (Twin h) = refl
is_numbered (Vertex h) = refl
is_numbered (Unused v) = refl
is_numbered (Edge h) = refl
is_numbered (Fan v) = refl
is_numbered (Point i) = refl
is_numbered (Room t) = refl
is_numbered (Short o) = refl
is_numbered (Field o) = refl
is_numbered (Extra o) = refl
is_numbered (Doubled h) = refl
is_numbered (Valence v) = refl
is_numbered (Crease e) = refl
is_numbered NotOld = refl
is_numbered (NoSuchHalfedge h) = refl

-- no refusal has the number 0
pub refused_number : (a : Refusal) → (refused a).number ≢ 0
refused_number a = eqb-false (refused a).number 0 (is_numbered a)

-- number 0 is done
pub zero_done : {A : Type 0} (a : Result A Refusal) → (told a).number ≡ 0 → told a ≡ DONE
zero_done (Ok a) z = refl
zero_done (Err r) z = absurd (refused_number r z)

-- a result's answer tells the result, where its values tell what they come from
module _ {A B : Type 0} (f : A → B) (zeros : B) (alike : (a b : A) → f a ≡ f b → a ≡ b) where
  pub answered-alike : (x y : Result A Refusal) → answered f zeros x ≡ answered f zeros y → x ≡ y
  answered-alike (Ok a) (Ok b) e = ap Ok (alike a b (ap (λ s. s.values) e))
  answered-alike (Ok a) (Err r) e = absurd (refused_number r (ap (λ s. s.verdict.number) (sym e)))
  answered-alike (Err r) (Ok b) e = absurd (refused_number r (ap (λ s. s.verdict.number) e))
  answered-alike (Err r) (Err q) e = ap Err (refused-alike r q (ap (λ s. s.verdict) e))

pub told-alike : (a b : Result ⊤ Refusal) → told a ≡ told b → a ≡ b
told-alike (Ok a) (Ok b) e = refl
told-alike (Ok a) (Err r) e = absurd (refused_number r (ap (λ v. v.number) (sym e)))
told-alike (Err r) (Ok b) e = absurd (refused_number r (ap (λ v. v.number) e))
told-alike (Err r) (Err q) e = ap Err (refused-alike r q e)

pub counted-alike : (a b : Result Levels Refusal) → counted a ≡ counted b → a ≡ b
counted-alike = answered-alike _ _ (λ a b e. e)

pub cornered-alike : (a b : Result (List ℕ) Refusal) → cornered a ≡ cornered b → a ≡ b
cornered-alike = answered-alike _ _ (λ a b e. e)

-- what a `?` hands on is the refusal that it met
pub handed_on : {A : Type 0} {x : Result A Refusal} {r : Refusal} → IsErr x × IsErrAnd x (λ q. q ≡ r) → x ≡ Err r
handed_on {x = Ok a} e = absurd e.1
handed_on {x = Err q} e = ap Err e.1
