-- Document 01, "The level lister": words, decimal numbers and lines, as bytes.
use Prim.Native.Char.{code}
use Rattle.std.specs.Prelude.{ℕ, suc, ◌^◌, List, [], ◌∷◌, ◌++◌, ltb, get_or}
use Prim.Native.String.{String, len, char_at}
use Rattle.io.specs.Digits.{last_digits}
use Rattle.laws.specs.Below.{lowest, tabulate}
use Rattle.halfedges.specs.declared.table.Levels.{Levels}
use Rattle.halfedges.specs.Cage.{F}

-- the bytes of a text, each character one byte
abbrev pub ascii : String → List ℕ
ascii s = tabulate (len s) (λ i. code (char_at s i))

-- the fewest digits that hold n, at least one; a number of 64 bits has at most twenty
unfoldable pub fewest : ℕ → ℕ
fewest n = suc (lowest 20 (λ k. ltb n (10 ^ suc k)))

-- a number in decimal digits
unfoldable pub decimal : ℕ → List ℕ
decimal n = last_digits 10 (fewest n) n

abbrev pub space : ℕ
space = 32

abbrev pub newline : ℕ
newline = 10

-- words with "one space between", and a byte after the last
abbrev pub ended : ℕ → List (List ℕ) → List ℕ
ended after [] = after ∷ []
ended after (w ∷ []) = w ++ (after ∷ [])
ended after (w ∷ v ∷ ws) = w ++ (space ∷ ended after (v ∷ ws))

-- the words of a line
abbrev pub line : List (List ℕ) → List ℕ
line = ended newline

-- "level, H, E, F, V" of a level, whose F is H/3
abbrev pub count_words : ℕ → ℕ → ℕ → ℕ → List (List ℕ)
count_words level h e v = decimal level ∷ decimal h ∷ decimal e ∷ decimal (F h) ∷ decimal v ∷ []

-- "level, H, E, F, V" of level k of an answer to the count question
abbrev pub level_words : Levels → ℕ → List (List ℕ)
level_words l k = count_words k (get_or l.halfedges k 0) (get_or l.edges k 0) (get_or l.vertices k 0)

-- "then `room`, the sum of H and the sum of V", and "a third number" for the sum of E
abbrev pub room_line : ℕ → ℕ → ℕ → List ℕ
room_line halfedges vertices edges = line (ascii "room" ∷ decimal halfedges ∷ decimal vertices ∷ decimal edges ∷ [])
