-- Document 01, "Points", and document 02, §5 "Left and right pads": rounding.
use Rattle.std.specs.Prelude.{ℕ, suc, ◌+◌, ◌*◌, ◌/◌, ℤ, pos, negsuc, neg_ℤ}

-- a size n/d "rounded to the nearest whole number", halves going up: (2n+d)/2d rounded down
abbrev pub nearest : ℕ → ℕ → ℕ
nearest n d = (2 * n + d) / (2 * d)

-- "Halves shall round away from zero": the size is rounded, and the sign kept
unfoldable pub round : ℤ → ℕ → ℤ
round (pos n) d = pos (nearest n d)
round (negsuc n) d = neg_ℤ (pos (nearest (suc n) d))
