-- Document 02, §2 "STL out to the mill": a coordinate as a 32-bit float.
use Rattle.std.specs.Prelude.{ℕ, suc, ◌+◌, ◌-◌, ◌*◌, ◌^◌, Bool, true, false, cond, eqb, ltb, ℤ, pos, negsuc, nat_abs, Float}
use Rattle.std.specs.Float.{binary32}
use Rattle.std.specs.Float.Ieee.{of_bits}
use Rattle.std.specs.Float.Ieee.Exact.{HasValue}
use Rattle.laws.specs.Below.{lowest}

-- the e with 2^e ≤ n < 2^(e+1), of an n from 1 to 2^20
unfoldable pub exponent : ℕ → ℕ
exponent n = lowest 21 (λ e. ltb n (2 ^ suc e))

-- n/1024 is 2^(e-10) times 1 + (n - 2^e)/2^e: the exponent's field has e - 10 with 127 added, the fraction's field, of 23 bits, the rest
unfoldable pub size_bits : ℕ → ℕ
unfolding exponent
size_bits n =
    let e = exponent n in
    cond (eqb n 0) 0 ((e + 127 - 10) * 2 ^ 23 + (n - 2 ^ e) * 2 ^ (23 - e))

-- the sign's bit stands above these
unfoldable pub float_bits : ℤ → ℕ
unfolding size_bits
float_bits (pos n) = size_bits n
float_bits (negsuc n) = 2 ^ 31 + size_bits (suc n)

-- the float of these bits
unfoldable pub float_of : ℤ → Float
float_of units = of_bits binary32 (float_bits units)

abbrev pub negative : ℤ → Bool
negative (pos n) = false
negative (negsuc n) = true

-- "A coordinate is its whole units divided by 1024, and the float is exact": it is finite, has the units' sign, and is their size over 1024
abbrev pub Exact : ℤ → Type 0
Exact units = HasValue (float_of units) (negative units) (nat_abs units) 1024
