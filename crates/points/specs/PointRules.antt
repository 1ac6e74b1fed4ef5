-- Document 01, "Points": the four rules, for one coordinate.
use Rattle.std.specs.Prelude.{ℕ, ◌-◌, ◌*◌, ℤ, pos, ◌+ℤ◌, ◌*ℤ◌}
use Rattle.points.specs.declared.weights.Weight.{Weight}
use Rattle.points.specs.declared.weights.Share.{Share}
use Rattle.rounding.specs.Rounding.{round}
use Rattle.points.specs.Weights.{share}

-- E.1 "Border edge with ends a, b: (a+b)/2"
unfoldable pub E1 : ℤ → ℤ → ℤ
E1 a b = round (a +ℤ b) 2

-- E.2 "Inner edge with opposite corners c, d: (3a+3b+c+d)/8"
unfoldable pub E2 : ℤ → ℤ → ℤ → ℤ → ℤ
E2 a b c d = round (pos 3 *ℤ a +ℤ pos 3 *ℤ b +ℤ c +ℤ d) 8

-- V.2 "Border vertex v with border neighbours a, b .. : (6v+a+b)/8", s being a+b
unfoldable pub V2 : ℤ → ℤ → ℤ
V2 v s = round (pos 6 *ℤ v +ℤ s) 8

-- what a place has where each of n spokes has its share: the rest of the whole
abbrev pub rest : Share → ℕ → ℕ
rest a n = a.whole - n * a.part

-- V.3 "Inner vertex of n corners, with s the sum over its n spokes' far ends", by the weight chosen: "(5n·v+3s)/(8n)" with the short
-- one, "((2^24−n·w)·v + w·s)/2^24" with the paper's
unfoldable pub V3 : Weight → ℕ → ℤ → ℤ → ℤ
V3 w n v s = round (pos (rest (share w n) n) *ℤ v +ℤ pos (share w n).part *ℤ s) (share w n).whole
