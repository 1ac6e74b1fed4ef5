-- Document 01, "The cage file": its numbers, as bytes and read back.
use Rattle.std.specs.Prelude.{ℕ, ◌+◌, ◌-◌, ◌*◌, ◌/◌, ◌%◌, cond, List, [], ◌∷◌, ◌++◌, eqb, ltb, ℤ, pos, negsuc, get_or}
use Rattle.halfedges.specs.Cage.{marker}

-- "All numbers little-endian"
abbrev pub u16 : ℕ → List ℕ
u16 n = n % 256 ∷ n / 256 % 256 ∷ []

abbrev pub u32 : ℕ → List ℕ
u32 n = u16 (n % 65536) ++ u16 (n / 65536)

-- "two's complement 32-bit"
abbrev pub twos : ℤ → ℕ
twos (pos n) = n
twos (negsuc n) = 4294967295 - n

-- "65535 for no twin"
abbrev pub no_twin : ℕ
no_twin = 65535

-- the number in two bytes, and in four
abbrev pub u16_at : List ℕ → ℕ → ℕ
u16_at f at = get_or f at 0 + 256 * get_or f (at + 1) 0

abbrev pub u32_at : List ℕ → ℕ → ℕ
u32_at f at = u16_at f at + 65536 * u16_at f (at + 2)

-- a number as a twin: "Only 65535 in the twin payload becomes the marker"
abbrev pub as_twin : ℕ → ℕ
as_twin n = cond (eqb n no_twin) marker n

-- two's complement read back
abbrev pub signed : ℕ → ℤ
signed n = cond (ltb n 2147483648) (pos n) (negsuc (4294967295 - n))
