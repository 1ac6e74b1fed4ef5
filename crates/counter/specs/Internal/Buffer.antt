-- The longest text that can be a question; the program's buffer takes one byte more.
use Rattle.std.specs.Prelude.{ℕ}

-- four numbers of twenty digits, and a byte after each
abbrev pub longest : ℕ
longest = 84
