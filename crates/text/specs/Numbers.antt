-- Decimal numbers in a text.
use Rattle.std.specs.Prelude.{ℕ, ◌+◌, ◌*◌, ◌-◌, ◌^◌, Bool, cond, not, ◌&&◌, ◌||◌, List, [], ◌∷◌, eqb, leb, ltb, length, get_or, take, drop, Option, Some, None}
use Rattle.std.specs.Option.{option_map}
use Rattle.laws.specs.Below.{lowest}
use Rattle.text.specs.declared.numbers.Number.{Number}

-- a byte from `0` to `9`
unfoldable pub is_digit : ℕ → Bool
is_digit byte = leb 48 byte && leb byte 57

-- how many digits a text starts with
unfoldable pub digit_count : List ℕ → ℕ
digit_count text = lowest (length text) (λ k. not (is_digit (get_or text k 0)))

-- the number that digits make after those of n
abbrev pub worth : ℕ → List ℕ → ℕ
worth n [] = n
worth n (d ∷ ds) = worth (10 * n + (d - 48)) ds

-- the number that the first k bytes make, where it has 64 bits; the text goes on past the byte after it
unfoldable pub numbered : List ℕ → ℕ → Option Number
numbered text k =
    let value = worth 0 (take k text) in
    cond (ltb value (2 ^ 64)) (Some (record { value = value; next = k + 1 })) None

-- a number of one to twenty digits, and after it a certain byte
unfoldable pub number_in : List ℕ → ℕ → Option Number
number_in text after =
    let k = digit_count text in
    cond (eqb k 0 || ltb 20 k || leb (length text) k || not (eqb (get_or text k 0) after)) None (numbered text k)

-- what is found after so many bytes goes on so many later
abbrev pub later : ℕ → Number → Number
later at n = record { value = n.value; next = at + n.next }

-- a number from a place on
unfoldable pub number_at : List ℕ → ℕ → ℕ → Option Number
number_at text at after = option_map (later at) (number_in (drop at text) after)
