-- A file of form 2, and where reading stops: computed from the definitions. Assumes nothing.
--     triangle-file     88 bytes, and the first of them
--     stops             check 3 before tag 23's head, the weight before tag 7F's, room place 7, a form that is neither, and form 2 where
--                       form 1 is asked for
use Prim.Native.Nat.{ℕ}
use mathlib.Core.Path.{◌≡◌, refl}
use mathlib.Core.List.{List, [], ◌∷◌, ◌++◌, map, flat_map}
use lib.IntN.{ℤ, pos}
use lib.ListN.{length, take, replicate}
use Rattle.halfedges.specs.Cage.{marker, above, E}
use Rattle.halfedges.specs.Counts.{above_limit}
use Rattle.halfedges.specs.Refusals.{DONE, TWIN, SHORT, FIELD, ROOM, given, given_at, short, first}
use Rattle.tables.specs.Tables.{Tables, tables}
use Rattle.tables.specs.Rules.{bad_twin}
use Rattle.levels.specs.Refining.{short_tables}
use Rattle.points.specs.declared.weights.Weight.TheVariants.{Short, Paper}
use Rattle.cagefile.specs.declared.fields.Form.TheVariants.{One, Two}
use Rattle.cagefile.specs.Fields.{Cage, table_heads, later_heads, table_payloads, later_payloads, fields, file}
use Rattle.filechecks.specs.Contents.{form_of, payload_at, twins_in, heads_in}
use Rattle.filechecks.specs.FileChecks.{field_checks, opening_asked, twins_asked, weight_asked, fields_checks, front_to_back, file_checks}
use Rattle.reading.specs.Reading.{short_room, read_verdict}

-- P1's triangle with the paper's weight, and P5's pillow by the first of its twins
abbrev triangle : Cage
triangle =
    record {
      connectivity = tables (marker ∷ marker ∷ marker ∷ []) (0 ∷ 1 ∷ 2 ∷ []) (0 ∷ 1 ∷ 2 ∷ []);
      points = map pos (0 ∷ 0 ∷ 0 ∷ 800 ∷ 0 ∷ 0 ∷ 0 ∷ 800 ∷ 0 ∷ []);
      creases = 0 ∷ 0 ∷ 0 ∷ [];
      weight = Paper;
    }

abbrev pillow : ℕ → Cage
pillow first =
    record {
      connectivity = tables (first ∷ 4 ∷ 3 ∷ 2 ∷ 1 ∷ 0 ∷ []) (0 ∷ 1 ∷ 2 ∷ 0 ∷ 2 ∷ 1 ∷ []) (0 ∷ 1 ∷ 2 ∷ 2 ∷ 1 ∷ 0 ∷ []);
      points = map pos (0 ∷ 0 ∷ 0 ∷ 16 ∷ 0 ∷ 0 ∷ 0 ∷ 16 ∷ 0 ∷ []);
      creases = 0 ∷ 7 ∷ 0 ∷ [];
      weight = Short;
    }

-- lent tables with room
abbrev lent : Tables
lent = let cells : List ℕ = replicate 9 0 in tables cells cells cells

abbrev lent_points : List ℤ
lent_points = replicate 9 (pos 0)

triangle-file : (length (file Two triangle) ≡ 88) × (take 9 (file Two triangle) ≡ 0x10 ∷ 6 ∷ 0 ∷ 2 ∷ 0 ∷ 3 ∷ 0 ∷ 3 ∷ 0 ∷ [])
unfolding E above flat_map fields table_heads later_heads table_payloads later_payloads file
triangle-file = (refl, refl)

stops :
    (read_verdict (take 54 (file Two (pillow 0))) lent lent_points [] ≡ TWIN 0)
    × (read_verdict (take 54 (file Two (pillow 5))) lent lent_points [] ≡ SHORT 54)
    × (read_verdict (take 84 (file Two triangle) ++ (2 ∷ [])) lent lent_points [] ≡ FIELD 81)
    × (read_verdict (take 85 (file Two triangle)) lent lent_points [] ≡ SHORT 85)
    × (read_verdict (file Two triangle) lent lent_points (0 ∷ 0 ∷ []) ≡ ROOM 7)
    × (read_verdict (file Two triangle) lent lent_points (0 ∷ 0 ∷ 0 ∷ []) ≡ DONE)
    × (read_verdict (0x10 ∷ 6 ∷ 0 ∷ 3 ∷ 0 ∷ 3 ∷ 0 ∷ 3 ∷ 0 ∷ []) lent lent_points [] ≡ FIELD 0)
    × (first (file_checks (One ∷ []) (file Two triangle)) ≡ FIELD 0)
unfolding E above flat_map fields table_heads later_heads table_payloads later_payloads file above_limit given given_at short first bad_twin short_tables form_of payload_at twins_in heads_in field_checks opening_asked twins_asked weight_asked fields_checks front_to_back file_checks short_room read_verdict
stops = (refl, refl, refl, refl, refl, refl, refl, refl)
