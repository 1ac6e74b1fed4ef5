-- Document 01, "The cage file", and document 02, §7 "Form 2 files": reading.
use Rattle.std.specs.Prelude.{ℕ, ◌*◌, List, [], ◌∷◌, ◌++◌, ℤ, Result, length}
use Rattle.reading.specs.declared.Reading.{Reading}
use Rattle.halfedges.specs.declared.refusal.Refusal.{Refusal}
use Rattle.halfedges.specs.Refusals.{Verdict, short, first, Said, said, answered, filled}
use Rattle.tables.specs.Tables.{Tables, tables}
use Rattle.levels.specs.Refining.{short_tables, filled_tables}
use Rattle.points.specs.Weights.{weight_number}
use Rattle.cagefile.specs.Fields.{number}
use Rattle.filechecks.specs.Contents.{HIn, VIn, EIn, form_of, twins_in, verts_in, edges_in, creases_read, points_in, weight_in}
use Rattle.filechecks.specs.FileChecks.{file_checks, both}

-- "Then 9"; "Room place 7 is the crease table"
unfoldable pub short_room : List ℕ → Tables → List ℤ → List ℕ → List Verdict
short_room f lent lent_points lentCreases =
    short_tables (HIn f) lent ++ (short 4 (3 * VIn f) (length lent_points) ∷ short 7 (EIn f) (length lentCreases) ∷ [])

unfoldable pub read_verdict : List ℕ → Tables → List ℤ → List ℕ → Verdict
read_verdict f lent lent_points lentCreases = first (file_checks both f ++ short_room f lent lent_points lentCreases)

pub record Read : Type 0 where
  pub answer : Said (List ℕ)
  pub lent : Tables
  pub points : List ℤ
  pub creases : List ℕ

-- "Done, reading returns form, H, V, E and weight"; "Cells of the lent tables past H, or past 3V in the points, are untouched"
unfoldable pub read_file : List ℕ → Tables → List ℤ → List ℕ → Read
read_file f lent lent_points lentCreases =
    let verdict = read_verdict f lent lent_points lentCreases in
    record {
      answer = said verdict (number (form_of f) ∷ HIn f ∷ VIn f ∷ EIn f ∷ weight_number (weight_in f) ∷ []) (0 ∷ 0 ∷ 0 ∷ 0 ∷ 0 ∷ []);
      lent = filled_tables verdict (tables (twins_in f) (verts_in f) (edges_in f)) lent;
      points = filled verdict (points_in f) lent_points;
      creases = filled verdict (creases_read f) lentCreases;
    }

-- the form, H, V, E and weight as the code has them
abbrev pub numbers : Reading → List ℕ
numbers r = number r.form ∷ r.halfedges ∷ r.vertices ∷ r.edges ∷ weight_number r.weight ∷ []

-- what the code's answer says
abbrev pub reported : Result Reading Refusal → Said (List ℕ)
reported = answered numbers (0 ∷ 0 ∷ 0 ∷ 0 ∷ 0 ∷ [])
