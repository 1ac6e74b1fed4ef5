-- Document 02, §5 "Left and right pads": what refining leaves of a cage and of its mirror image.
use Rattle.std.specs.Prelude.{ℕ, ◌*◌, ◌%◌, ◌<◌, ◌≡◌, ◌≢◌, Bool, cond, List, eqb, ℤ, pos, neg_ℤ, length, get_or, drop}
use Rattle.laws.specs.Below.{tabulate}
use Rattle.points.specs.NextPoints.{coordinate}
use Rattle.points.specs.Operations.{Refined}

-- z, negated where the test holds
unfoldable pub turned : Bool → ℤ → ℤ
turned test z = cond test (neg_ℤ z) z

-- "negating every x in the cage": coordinate k of every vertex, where x is 0, y is 1 and z is 2
unfoldable pub mirrored : ℕ → List ℤ → List ℤ
mirrored k points = tabulate (length points) (λ i. turned (eqb (i % 3) k) (get_or points i (pos 0)))

-- how many vertices were written, of all levels: the room that is answered, which is 0 in a refusal
abbrev pub written : Refined → ℕ
written r = r.answer.values.vertex_room

-- refining a cage into lent tables left `left`, and refining its mirror image "with the same tables and the same weight", and the same
-- creases, left `right`
pub record Pads (k : ℕ) (lent_points : List ℤ) (left right : Refined) : Type 0 where
  pub answer : right.answer ≡ left.answer
  pub tables : right.lent ≡ left.lent
  pub creases : right.creases ≡ left.creases
  pub long : length right.points ≡ length left.points
  -- "negates every x at every depth"
  pub negated : k < 3 → (u : ℕ) → u < written left → coordinate right.points k u ≡ neg_ℤ (coordinate left.points k u)
  -- "and leaves the other numbers as they were"
  pub kept : (j : ℕ) → j < 3 → j ≢ k → (u : ℕ) → u < written left → coordinate right.points j u ≡ coordinate left.points j u
  -- "What lies past that is untouched"
  pub past_left : drop (3 * written left) left.points ≡ drop (3 * written left) lent_points
  pub past_right : drop (3 * written left) right.points ≡ drop (3 * written left) lent_points
