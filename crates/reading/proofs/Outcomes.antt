-- What reading leaves where it is done and where it refuses. Assumes nothing.
--     read_done, done_left, refused_left        each outcome of reading
use Prim.Native.Nat.{ℕ}
use Rattle.std.specs.Prelude.{Ok, Err}
use mathlib.Core.Path.{◌≡◌, refl, sym}
use mathlib.Core.List.{List, [], ◌∷◌}
use lib.IntN.{ℤ}
use borrow.Author.Tests.{ne_eqb}
use Rattle.laws.specs.Parts.{in_front}
use Rattle.halfedges.specs.declared.refusal.Refusal.{Refusal}
use Rattle.halfedges.specs.Refusals.{DONE, Said, refused, said, filled}
use Rattle.halfedges.proofs.Told.{refused_number}
use Rattle.tables.specs.Tables.{Tables, tables}
use Rattle.levels.specs.Refining.{filled_tables}
use Rattle.points.specs.Weights.{weight_number}
use Rattle.cagefile.specs.Fields.{number}
use Rattle.filechecks.specs.Contents.{HIn, VIn, EIn, form_of, twins_in, verts_in, edges_in, creases_read, points_in, weight_in}
use Rattle.reading.specs.declared.Reading.{Reading}
use Rattle.reading.specs.Reading.{read_verdict, Read, read_file, numbers, reported}

-- what reading answers where it is done
abbrev pub values_in : List ℕ → List ℕ
values_in f = number (form_of f) ∷ HIn f ∷ VIn f ∷ EIn f ∷ weight_number (weight_in f) ∷ []

-- what it leaves then, with what the lent tables held
abbrev pub all_read : List ℕ → Tables → List ℤ → List ℕ → Read
all_read f lent lent_points lentCreases =
    record {
      answer = record { verdict = DONE; values = values_in f };
      lent = tables (in_front (twins_in f) lent.twin) (in_front (verts_in f) lent.vert) (in_front (edges_in f) lent.edge);
      points = in_front (points_in f) lent_points;
      creases = in_front (creases_read f) lentCreases;
    }

-- the promise of reading: what it answers, and what it leaves in the lent tables
abbrev pub Left : Read → Said (List ℕ) → Tables → List ℤ → List ℕ → Type 0
Left after answer lent points creases = (answer ≡ after.answer) × (lent ≡ after.lent) × (points ≡ after.points) × (creases ≡ after.creases)

module _ (f : List ℕ) (lent : Tables) (lent_points : List ℤ) (lentCreases : List ℕ) where
  pub read_done : read_verdict f lent lent_points lentCreases ≡ DONE → read_file f lent lent_points lentCreases ≡ all_read f lent lent_points lentCreases
  unfolding read_file said filled_tables filled
  read_done e = rw e

  module _ (d : DONE ≡ read_verdict f lent lent_points lentCreases) (r : Reading) (a : numbers r ≡ values_in f) where
    pub done_left : (now : Tables) (points : List ℤ) (creases : List ℕ) → now ≡ (all_read f lent lent_points lentCreases).lent → points ≡ in_front (points_in f) lent_points → creases ≡ in_front (creases_read f) lentCreases
        → Left (read_file f lent lent_points lentCreases) (reported (Ok r)) now points creases
    done_left now points creases t u k = rw (read_done (sym d), a, t, u, k) (refl, refl, refl, refl)

  pub refused_left : (r : Refusal) → refused r ≡ read_verdict f lent lent_points lentCreases → Left (read_file f lent lent_points lentCreases) (reported (Err r)) lent lent_points lentCreases
  unfolding read_file said filled_tables filled
  refused_left r e = rw (← e, ne_eqb _ _ (refused_number r)) (refl, refl, refl, refl)
