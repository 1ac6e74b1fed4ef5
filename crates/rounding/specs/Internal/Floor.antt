-- Rounding down.
use Rattle.std.specs.Prelude.{ℕ, ℤ}
use Rattle.std.specs.Int.Signed.{shr_z}

-- n/d rounded down
abbrev pub floor : ℤ → ℕ → ℤ
floor n d = shr_z n d
