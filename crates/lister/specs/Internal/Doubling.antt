-- How the lister's code has B: no promise cites this.
use Rattle.std.specs.Prelude.{ℕ, ◌*◌, ◌^◌}

-- b doubled k times
abbrev pub doubled : ℕ → ℕ → ℕ
doubled b k = 2 ^ k * b
