-- Document 01, "Why a cage is sent back", with the numbers that document 02 adds: the numbers, and how checks follow each other.
use Rattle.std.specs.Prelude.{ℕ, Bool, cond, List, [], ◌∷◌, Result, Ok, Err, eqb, ltb}
use Rattle.halfedges.specs.declared.refusal.Refusal.{Refusal}
use Rattle.halfedges.specs.declared.refusal.Refusal.TheVariants.{Shape, Limit, Twin, Vertex, Unused, Edge, Fan, Point, Room, Short, Field, Extra, Doubled, Valence, Crease, NotOld, NoSuchHalfedge}
use Rattle.laws.specs.Below.{any, lowest}
use Rattle.laws.specs.Parts.{in_front}

-- a number of the table, with the place returned
pub record Verdict : Type 0 where
  pub number : ℕ
  pub place : ℕ

abbrev numbered : ℕ → ℕ → Verdict
numbered n p = record { number = n; place = p }

-- "0 means done, with place 0"
abbrev pub DONE : Verdict
DONE = numbered 0 0

abbrev pub SHAPE : Verdict
SHAPE = numbered 1 0

abbrev pub LIMIT : Verdict
LIMIT = numbered 2 0

abbrev pub TWIN : ℕ → Verdict
TWIN = numbered 3

abbrev pub VERTEX : ℕ → Verdict
VERTEX = numbered 4

abbrev pub UNUSED : ℕ → Verdict
UNUSED = numbered 5

abbrev pub EDGE : ℕ → Verdict
EDGE = numbered 6

abbrev pub FAN : ℕ → Verdict
FAN = numbered 7

abbrev pub POINT : ℕ → Verdict
POINT = numbered 8

abbrev pub ROOM : ℕ → Verdict
ROOM = numbered 9

abbrev pub SHORT : ℕ → Verdict
SHORT = numbered 10

abbrev pub FIELD : ℕ → Verdict
FIELD = numbered 11

abbrev pub EXTRA : ℕ → Verdict
EXTRA = numbered 12

abbrev pub DOUBLED : ℕ → Verdict
DOUBLED = numbered 13

abbrev pub VALENCE : ℕ → Verdict
VALENCE = numbered 14

abbrev pub CREASE : ℕ → Verdict
CREASE = numbered 15

abbrev pub NOT_OLD : Verdict
NOT_OLD = numbered 16 0

abbrev pub NO_SUCH_HALFEDGE : ℕ → Verdict
NO_SUCH_HALFEDGE = numbered 17

-- what each case of the code's refusal is called here
abbrev pub refused : Refusal → Verdict
refused Shape = SHAPE
refused Limit = LIMIT
refused (Twin h) = TWIN h
refused (Vertex h) = VERTEX h
refused (Unused v) = UNUSED v
refused (Edge h) = EDGE h
refused (Fan v) = FAN v
refused (Point i) = POINT i
refused (Room t) = ROOM t
refused (Short o) = SHORT o
refused (Field o) = FIELD o
refused (Extra o) = EXTRA o
refused (Doubled h) = DOUBLED h
refused (Valence v) = VALENCE v
refused (Crease e) = CREASE e
refused NotOld = NOT_OLD
refused (NoSuchHalfedge h) = NO_SUCH_HALFEDGE h

-- what the code's answer says: done, or the refusal
abbrev pub told : {A : Type 0} → Result A Refusal → Verdict
told (Ok a) = DONE
told (Err r) = refused r

-- "Given exactly when"
unfoldable pub given : Bool → Verdict → Verdict
given test v = cond test v DONE

-- given where one of n places fails the test, at the lowest such place
unfoldable pub given_at : ℕ → (ℕ → Bool) → (ℕ → Verdict) → Verdict
unfolding given
given_at n bad at = given (any n bad) (at (lowest n bad))

-- "a lent table is shorter than needed"
unfoldable pub short : ℕ → ℕ → ℕ → Verdict
unfolding given
short table needed lent = given (ltb lent needed) (ROOM table)

-- x where the number is 0, else y
abbrev pub when_done : {A : Type 0} → Verdict → A → A → A
when_done v x y = cond (eqb v.number 0) x y

-- "Checks run in number order; the first that holds is the answer"
unfoldable pub first : List Verdict → Verdict
first [] = DONE
first (v ∷ vs) = when_done v (first vs) v

-- number, place and what is returned besides
pub record Said (A : Type 0) : Type 0 where
  pub verdict : Verdict
  pub values : A

-- done returns values; in a refusal, "besides number and place everything in it is zero"
unfoldable pub said : {A : Type 0} → Verdict → A → A → Said A
said v values zeros = record { verdict = v; values = when_done v values zeros }

-- number, place and what is returned besides, of the code's answer: "besides number and place everything in it is zero"
abbrev pub answered : {A B : Type 0} → (A → B) → B → Result A Refusal → Said B
answered f zeros (Ok a) = record { verdict = DONE; values = f a }
answered f zeros (Err r) = record { verdict = refused r; values = zeros }

-- a lent table once done: new cells, and past them what it held; "every refusal leaves all lent tables and file buffers unchanged"
unfoldable pub filled : {A : Type 0} → Verdict → List A → List A → List A
filled v cells lent = when_done v (in_front cells lent) lent
