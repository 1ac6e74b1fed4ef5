-- What the cage check and refining answer, and what they leave in every lent table.
use Rattle.std.specs.Prelude.{ℕ, suc, ◌*◌, ◌/◌, ◌%◌, ◌≤◌, ◌<◌, Bool, not, ◌&&◌, ◌||◌, List, [], ◌∷◌, ◌++◌, eqb, ltb, ℤ, pos, nat_abs, length, get_or, replicate}
use Rattle.halfedges.specs.declared.table.HalfedgeTable.{HalfedgeTable}
use Rattle.halfedges.specs.declared.table.Levels.{Levels}
use Rattle.laws.specs.Below.{any, end_to_end}
use Rattle.halfedges.specs.Cage.{border}
use Rattle.halfedges.specs.Refusals.{Verdict, SHAPE, LIMIT, POINT, VALENCE, given, given_at, short, first, Said, said, filled}
use Rattle.halfedges.specs.Counts.{no_levels, room_h, room_v, room_e, above_limit, count_question}
use Rattle.tables.specs.Tables.{Tables, counts_of, leaves}
use Rattle.tables.specs.Rules.{misshapen}
use Rattle.tables.specs.Check.{rules, returned}
use Rattle.levels.specs.Refining.{short_tables, filled_tables, levels_end_to_end}
use Rattle.creases.specs.Creases.{creases_at}
use Rattle.creases.specs.Check.{creased_rules}
use Rattle.points.specs.declared.weights.Weight.{Weight}
use Rattle.points.specs.declared.weights.Weight.TheVariants.{Short, Paper}
use Rattle.points.specs.Weights.{most_valence}
use Rattle.points.specs.NextPoints.{corners, far, level_points}

-- "V is its length over three"
abbrev pub vertices : List ℤ → ℕ
vertices points = length points / 3

-- 1, of VERT and the points alone: "the table is empty or no multiple of 3 or the points are no multiple of 3"
unfoldable pub unshaped : List ℕ → List ℤ → Bool
unshaped vert points = eqb (length vert) 0 || not (eqb (length vert % 3) 0) || not (eqb (length points % 3) 0)

-- "each coordinate from −1,048,576 to 1,048,576"
abbrev pub most_coordinate : ℕ
most_coordinate = 1048576

-- 8 "a coordinate is out of range"
unfoldable pub out_of_range : List ℤ → ℕ → Bool
out_of_range points i = ltb most_coordinate (nat_abs (get_or points i (pos 0)))

-- 8 in plain words: every coordinate is in range
abbrev pub InRange : List ℤ → Type 0
InRange points = (i : ℕ) → i < length points → nat_abs (get_or points i (pos 0)) ≤ most_coordinate

-- h has no twin, and leaves v or ends there
abbrev pub border_at : List ℕ → List ℕ → ℕ → ℕ → Bool
border_at twin vert v h = border twin h && (leaves vert v h || eqb (far vert h) v)

-- v lies on a border
unfoldable pub on_border : List ℕ → List ℕ → ℕ → Bool
on_border twin vert v = any (length vert) (border_at twin vert v)

-- 14 "inner vertex of more than 32 corners"
unfoldable pub many_corners : List ℕ → List ℕ → ℕ → Bool
many_corners twin vert v = not (on_border twin vert v) && ltb most_valence (length (corners vert v))

-- 14 "in refining with this weight only", the paper's
abbrev pub valence_checks : Weight → List ℕ → List ℕ → ℕ → List Verdict
valence_checks Short twin vert v = []
valence_checks Paper twin vert v = given_at v (many_corners twin vert) VALENCE ∷ []

-- 1 and 2, the rules 3 to 7 that are handed over, more checks "after 7 and before 8", and 8
abbrev pub checks_with : List Verdict → List Verdict → Tables → List ℤ → ℕ → List Verdict
checks_with three-to-seven more c points depth =
    given (misshapen c || not (eqb (length points % 3) 0)) SHAPE
    ∷ given (above_limit (length c.twin) (vertices points) depth) LIMIT
    ∷ (three-to-seven ++ (more ++ (given_at (length points) (out_of_range points) POINT ∷ [])))

-- rules 1 to 8 in number order, of a cage that has no creases, as in a file of form 1
unfoldable pub cage_checks : Tables → List ℤ → ℕ → List Verdict
cage_checks c points depth = checks_with (rules c (vertices points)) [] c points depth

-- with its creases, 1 and 15 among them
unfoldable pub creased_checks : Tables → List ℕ → List ℤ → ℕ → List Verdict
creased_checks c creases points depth = checks_with (creased_rules c creases (vertices points)) [] c points depth

-- and 14 for the weight chosen
unfoldable pub refine_checks : Weight → Tables → List ℕ → List ℤ → ℕ → List Verdict
refine_checks w c creases points depth =
    checks_with (creased_rules c creases (vertices points)) (valence_checks w c.twin c.vert (vertices points)) c points depth

-- "The cage check has no depth and gives 1 to 8"
unfoldable pub check_cage : Tables → List ℤ → Said (List ℕ)
check_cage c points = said (first (cage_checks c points 0)) (returned c.twin (vertices points)) (replicate 5 0)

-- "Checking and refining carry the new table"
unfoldable pub check_creased : Tables → List ℕ → List ℤ → Said (List ℕ)
check_creased c creases points = said (first (creased_checks c creases points 0)) (returned c.twin (vertices points)) (replicate 5 0)

-- 9, "first short one": "Room is the sum of H in each of the first three, three times the sum of V in the points"; it "gains the sum of E
-- over the levels", where "Room place 7 is the crease table"
unfoldable pub short_lent : HalfedgeTable → ℕ → Tables → List ℤ → List ℕ → List Verdict
short_lent t depth lent lent_points lentCreases =
    short_tables (room_h t depth) lent
    ++ (short 4 (3 * room_v t depth) (length lent_points) ∷ short 7 (room_e t depth) (length lentCreases) ∷ [])

-- "Refining gives 1 to 9", 14 and 15
unfoldable pub refine_verdict : Weight → Tables → List ℕ → List ℤ → ℕ → Tables → List ℤ → List ℕ → Verdict
refine_verdict w c creases points depth lent lent_points lentCreases =
    first
    (refine_checks w c creases points depth
    ++ short_lent (counts_of c (vertices points)) depth lent lent_points lentCreases)

pub record Refined : Type 0 where
  pub answer : Said Levels
  pub lent : Tables
  pub points : List ℤ
  pub creases : List ℕ

-- "Refining writes levels 0 to D end to end in the four lent tables", and the creases "level after level like the others"; "Done returns
-- the count question's answer for this cage and depth"
unfoldable pub refine_cage : Weight → Tables → List ℕ → List ℤ → ℕ → Tables → List ℤ → List ℕ → Refined
refine_cage w c creases points depth lent lent_points lentCreases =
    let t = counts_of c (vertices points) in
    let verdict = refine_verdict w c creases points depth lent lent_points lentCreases in
    record {
      answer = said verdict (count_question t depth).values no_levels;
      lent = filled_tables verdict (levels_end_to_end t c depth) lent;
      points = filled verdict (end_to_end (suc depth) (level_points w t c creases points)) lent_points;
      creases = filled verdict (end_to_end (suc depth) (creases_at t creases)) lentCreases;
    }
