-- The third pass: every vertex's sums become its new place inside.
use Rattle.std.specs.Prelude.{ℕ, ◌+◌, ◌*◌, ◌/◌, List, ℤ, set}
use Rattle.points.specs.declared.weights.Weight.{Weight}
use Rattle.points.specs.PointRules.{V3}
use Rattle.points.specs.Internal.Parts.{AsksInside}
use Rattle.points.specs.Internal.Relied.{known_corners}
use Rattle.points.specs.Internal.Cells.{value}

-- 3: cell i of the sums is made the new place by V.3, also where V.2 is to come
unfoldable pub settle : Weight → List ℕ → ℕ → ℕ → List ℤ → List ℤ
settle w own n i l = set l (3 * n + i) (V3 w (known_corners own (i / 3)) (value l i) (value l (3 * n + i)))

-- what V.3 asks there
abbrev pub SettlesAt : List ℕ → ℕ → ℕ → List ℤ → Type 0
SettlesAt own n i l = AsksInside (known_corners own (i / 3)) (value l i) (value l (3 * n + i))
